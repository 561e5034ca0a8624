use Rattle.std.proofs.Common.{[], ◌∷◌, ◌++◌, map, ap, ◌∙◌, arith}
use Rattle.std.proofs.lemmas.List.{map-append}
use Rattle.drawing.specs.RegisterNames.{name_told}
use Rattle.drawing.proofs.KeptNames.{bytes_of, one_register_more}
use Rattle.drawing.proofs.names.RegisterNames.told.Goals as goal

pub loop-r-preserved : goal.loop-r-preserved
loop-r-preserved c =
    let given = rw (c.as_slice.ensures.value, c.name_told-name.ensures) at c.unless_given.ensures in
    record {
      names =
          one_register_more (name_told c.args.text.now) c.loop-r.r (map bytes_of c.loop-r.names.items) (map bytes_of c.push.new.self.items) c.loop-r.invariant.names
          (ap (map bytes_of) c.push.ensures.items
          ∙ (map-append bytes_of c.loop-r.names.items (c.unless_given.result ∷ [])
          ∙ ap (λ name. map bytes_of c.loop-r.names.items ++ name ∷ []) given));
      long = omega arith;
    }
