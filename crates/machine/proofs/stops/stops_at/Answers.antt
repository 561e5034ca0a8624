use Rattle.std.proofs.Common.{◌≡◌, None, Ok, Err, Result, refl, ap, sym, ◌∙◌}
use Rattle.std.specs.Result.{result_err}
use Rattle.regmodel.specs.Prelude.{block_of}
use Rattle.machine.specs.declared.stops.Stopped.{Stopped}
use Rattle.machine.specs.declared.stops.Walk.{Walk}
use Rattle.machine.specs.Stops.{stops_in}
use Rattle.machine.specs.Stores.{env_of}
use Rattle.machine.specs.Walks.{past_walk}
use Rattle.regmodel.specs.Kept.{values_in}
use Rattle.std.specs.Prelude.{map}
use Rattle.machine.proofs.WalkedBlocks.{stops_nowhere_else}
use Rattle.machine.proofs.stops.stops_at.Goals as goal

stopped : (r : Result (Unit {0}) Stopped) (walk : Walk) → result_err r ≡ past_walk r walk (λ env s. None)
stopped (Ok done) walk = refl
stopped (Err at) walk = refl

pub returns : goal.returns
returns c =
    let xs = c.body.result.now in
    let n = c.registers.result in
    let s = map values_in c.args.replies.now in
    let env = env_of c.empty_store.result in
    c.err.ensures.value
    ∙ stopped c.past_block.result c.past_block.new.walk
    ∙ sym (c.past_block.ensures.same (λ env s. None))
    ∙ stops_nowhere_else xs n 0 env s
    ∙ ap (λ b. stops_in b n 0 env s) c.body.ensures.value
    ∙ ap (λ n. stops_in (block_of c.args.prog.now.body.items) n 0 env s) c.registers.ensures.value
    ∙ ap (λ env. stops_in (block_of c.args.prog.now.body.items) c.args.prog.now.registers 0 env s) c.empty_store.ensures
