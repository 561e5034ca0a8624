use Rattle.std.proofs.Common.{ℕ, ◌-◌, List, arith}
use Rattle.regmodel.specs.declared.schedules.Letter.{Letter}
use Rattle.regmodel.specs.declared.parts.Part.{Part}
use Rattle.world.specs.Fit.{AreFit}
use Rattle.reglang.specs.Sources.{source_programs}
use Rattle.lists.specs.EveryNth.{every_nth}
use Rattle.pieces.specs.Cutting.{pieces_at}
use Rattle.pieces.specs.Searches.{Search}
use Rattle.explorer.specs.Tasks.{search_of}
use Rattle.part_laws.proofs.FoundParts.{explored-fits, lowest-fits}
use Rattle.part_laws.proofs.laws.parts_can_be_read.Goals as goal

-- the pieces of a part
abbrev pieces_of : Search → ℕ → Part → List (List Letter)
pieces_of search cut part = every_nth part.count (part.number - 1) (pieces_at search.programs search.crashes search.limit cut)

pub returns-clause-explored : goal.returns-clause-explored
returns-clause-explored c settings accepts part head findings fits processes length_is found tried =
    let search : Search = search_of c.args.source.now settings accepts in
    let told = c.registers.ensures in
    let fit : AreFit (source_programs c.args.source.now) c.registers.result 0 = record { some = told.some; few = told.few; within = told.programs; crashes = omega arith } in
    let order = c.outcomes_are_in_a_total_order.ensures in
    explored-fits c.wanted_accesses_are_within.ensures search c.registers.result 0 fit order.total order.same (pieces_of search settings.cut part) head findings fits processes length_is found tried

pub returns-clause-least : goal.returns-clause-least
returns-clause-least c settings accepts part head finding fits processes length_is found =
    let search : Search = search_of c.args.source.now settings accepts in
    let told = c.registers.ensures in
    let fit : AreFit (source_programs c.args.source.now) c.registers.result 0 = record { some = told.some; few = told.few; within = told.programs; crashes = omega arith } in
    lowest-fits c.wanted_accesses_are_within.ensures search c.registers.result 0 fit (pieces_of search settings.cut part) head finding fits processes length_is found
