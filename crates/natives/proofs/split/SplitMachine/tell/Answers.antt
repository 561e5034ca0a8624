use Rattle.std.proofs.Common.{[], ◌∷◌, ap, sym, ◌∙◌}
use Rattle.uses.specs.declared.kinds.Use.TheVariants as kind
use Rattle.uses.specs.Expansions.{expansion}
use Rattle.machine.proofs.StandingNumbers.{where_some}
use Rattle.natives.specs.Splits.{split_rest}
use Rattle.natives.proofs.split.SplitMachine.tell.Goals as goal

pub returns : goal.returns
returns c = λ told.
    let m = c.args.self.now in
    record {
      told = c.number.result ∷ [];
      behind = where_some c.put.result c.put.ensures.behind (sym c.is_some.ensures ∙ told);
      same = λ s. sym (ap (λ stage. split_rest (expansion (kind.Split m.base m.id) m.registers) stage s) c.number.ensures);
    }
