use Rattle.part_texts.proofs.WholeTexts.{number_refused, refused}
use Rattle.part_texts.proofs.streams.PartStream.number_behind.Goals as goal

pub returns-clause-whole : goal.returns-clause-whole
returns-clause-whole g c = refused _ _ c.number_after.result c.ok_or.result c.ok_or.ensures.value
    (number_refused _ _ c.wanted_line.new.self.line.items c.as_slice.result.now c.args.word.now c.number_after.result c.in_ok-wanted_line.ensures.line c.in_ok-wanted_line.ensures.one c.as_slice.ensures.value c.number_after.ensures.none)
