use Rattle.part_texts.proofs.SameParts.{part-same}
use Rattle.part_texts.proofs.laws.a_text_begins_with_one_part_at_most.Goals as goal

pub returns : goal.returns
returns c = part-same
