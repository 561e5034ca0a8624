use Rattle.std.proofs.Common.{suc, drop, map, rules}
use Rattle.patterns.specs.PatternText.{pattern_text}
use Rattle.orders.proofs.FirstBad.{parted_by}
use Rattle.orders.proofs.patterns_told.patterns_of.Goals as goal

pub returns-in-Err-clause-refused : goal.returns-in-Err-clause-refused
returns-in-Err-clause-refused c = record {
  patterns = c.loop-text.patterns.items;
  text = c.as_bytes.result.now;
  others = map (λ text. text.now) (drop (suc c.loop-text.text-index) c.args.texts.now);
  parts = parted_by (λ text. text.now) c.args.texts.now c.loop-text.text-index _ (map pattern_text c.loop-text.patterns.items) c.as_bytes.result.now c.loop-text-test.true c.loop-text.invariant c.as_bytes.ensures.value;
  place_is = search rules;
  none = c.in-Err.ensures.err;
  standing_is = c.in-Err.ensures.place;
}
