use Rattle.std.proofs.Common.{◌≡◌, false}
use Rattle.std.proofs.lemmas.Result.{IfErr-weaker, IfOk-weaker, err_from_is_err_and}
use Rattle.machine.specs.Meaning.{all_programs}
use Rattle.reglang.specs.Sources.{source_programs}
use Rattle.pieces.proofs.GrownLists.{last_has}
use Rattle.cli.proofs.aims.found_by.Goals as goal

pub returns-in-Check-clause-found : goal.returns-in-Check-clause-found
returns-in-Check-clause-found g c =
    rw c.in-Check.is (IfOk-weaker c.checked.result _ _ (λ finding first. first c.in-Check.native c.in-Check.lists) c.checked.ensures.found)

pub returns-in-Check-clause-refused : goal.returns-in-Check-clause-refused
returns-in-Check-clause-refused g c =
    rw c.in-Check.is (IfErr-weaker c.checked.result _ _ (λ fault refused. refused c.in-Check.effort c.in-Check.native c.in-Check.shortest c.in-Check.lists) c.checked.ensures.refused)

pub returns-in-Explore-clause-found : goal.returns-in-Explore-clause-found
returns-in-Explore-clause-found g c = rw c.in-Explore.is (c.explored.ensures c.in-Explore.native).found

pub returns-in-Explore-clause-refused : goal.returns-in-Explore-clause-refused
returns-in-Explore-clause-refused g c = rw c.in-Explore.is (c.explored.ensures c.in-Explore.native).refused

pub returns-in_err-discovery-in-Find-clause-refused : goal.returns-in_err-discovery-in-Find-clause-refused
returns-in_err-discovery-in-Find-clause-refused g c =
    let p = err_from_is_err_and c.from_residual.result c.from_residual.ensures.1 in
    rw (p.1, p.2, c.in-Find.is) (c.in_err-discovery-in-Find.ensures.refused c.in-Find.effort c.in-Find.native c.in-Find.shortest false)

pub standing_after-requires : goal.standing_after-requires
standing_after-requires g c =
    last_has (λ list. all_programs (λ b. (goal.Machine-dyn g (b.vtable, b.value)).means b.value) list.items ≡ source_programs c.args.run.now.spelling.source.now) c.last_of.result c.last_of.new.lists.items c.args.lists.items c.last_of.ensures c.requires.machines.1

pub shown-requires : goal.shown-requires
shown-requires g c =
    last_has (λ list. all_programs (λ b. (goal.Machine-dyn g (b.vtable, b.value)).means b.value) list.items ≡ source_programs c.args.run.now.spelling.source.now) c.last_of-in-Show.result c.last_of-in-Show.new.lists.items c.args.lists.items c.last_of-in-Show.ensures c.requires.machines.1
