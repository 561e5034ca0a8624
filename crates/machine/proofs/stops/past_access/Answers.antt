use Rattle.std.proofs.Common.{[], Some, ap, sym, ◌∙◌}
use Rattle.std.specs.Prelude.{map}
use Rattle.regmodel.specs.Kept.{values_in}
use Rattle.regmodel.specs.Program.{Stop, Do}
use Rattle.machine.specs.declared.run.StmtPart.TheVariants.{At}
use Rattle.machine.specs.Paths.{part_flow, resume}
use Rattle.machine.specs.Stops.{past}
use Rattle.machine.specs.Stores.{env_of, reply_stored}
use Rattle.machine.specs.Walks.{replies_of}
use Rattle.machine.proofs.stops.past_access.Goals as goal

pub returns : goal.returns
returns c = λ x n.
    let w = c.in-At in
    let b = Do x Stop in
    let env = env_of c.args.walk.now.store in
    let at = Some c.args.stopped in
    record {
      same = λ go.
          ap (λ part. past (part_flow part n b (resume n []) env (replies_of c.args.walk.now)) at go) w.is
          ∙ ap (λ s. past (part_flow (At w.field-0 w.destination) n b (resume n []) env s) at go) (ap (map values_in) c.in-Some.ensures.cases.0)
          ∙ ap (λ env. go env (map values_in c.in-Some.others.now)) (ap (reply_stored w.destination env) (sym c.values.ensures.value) ∙ sym c.put_reply.ensures);
    }
