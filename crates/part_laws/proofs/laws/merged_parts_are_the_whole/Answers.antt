use Rattle.std.proofs.Common.{ℕ, ◌∷◌, List, map, refl, ◌∙◌}
use Rattle.std.proofs.lemmas.List.Elements.{All-head, All-tail}
use Rattle.lists.specs.Balance.{AreInBalance}
use Rattle.regmodel.specs.declared.schedules.Letter.{Letter}
use Rattle.part_texts.specs.PlainHead.{AreOfOne}
use Rattle.part_texts.specs.declared.parts.PartReport.{PartReport}
use Rattle.tallies.specs.Merging.{lower_of}
use Rattle.pieces.specs.Parts.{members_of_part}
use Rattle.pieces.specs.Searches.{Search, reduced_of}
use Rattle.explorer.specs.Tasks.{search_of}
use Rattle.part_laws.specs.Wholes.{IsFoundIn, IsPartOfSource}
use Rattle.part_laws.proofs.JoinedParts.{all_found, each_found, gathered, gathered-balanced, some_count, whole_found}
use Rattle.part_laws.proofs.laws.merged_parts_are_the_whole.Goals as goal

pub returns : goal.returns
returns c source settings accepts first others merged h parts =
    let search : Search = search_of source settings accepts in
    let count : ℕ = first.head.count in
    let members : ℕ → List (List Letter) = members_of_part (search_of source settings accepts) settings.cut first.head.count in
    let numbers : List ℕ = map (λ (part : PartReport). part.head.number) others in
    let laws = c.merged_findings_are_of_both.ensures in
    let whole = c.the_whole_is_found.ensures in
    let own : IsPartOfSource source settings accepts first = All-head (IsPartOfSource source settings accepts) first others parts in
    let each = each_found source settings accepts first others (All-tail (λ (part : PartReport). AreOfOne first.head part.head) first others h.all.of_one) (All-tail (IsPartOfSource source settings accepts) first others parts) in
    let told : IsFoundIn search (gathered members first others) h.whole = all_found search (laws.merged search) (λ ws vs a b h k. laws.lower search ws vs a b (lower_of a b) h k refl) members first others h.whole own.found each h.joined in
    let balance : AreInBalance (gathered members first others) (reduced_of search) = λ weight.
    gathered-balanced members first others weight
    ∙ c.parts_are_the_whole.ensures.parts search settings.cut count (first.head.number ∷ numbers) (some_count first.head.number count numbers h.all.numbers) h.all.numbers weight in
    whole_found source settings accepts whole.explored whole.least first h.whole merged (gathered members first others) own balance told h.told
