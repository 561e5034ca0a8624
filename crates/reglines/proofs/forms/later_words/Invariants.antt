use Rattle.std.proofs.Common.{◌≡◌, ◌≤◌, ◌++◌, ◌&&◌, ◌||◌, length, map, take}
use Rattle.std.specs.List.{list_all, list_any}
use Rattle.reglines.specs.Lines.{words}
use Rattle.reglines.specs.Words.{word_of}
use Rattle.reglines.specs.Forms.{is_known, is_no_number}
use Rattle.reglines.proofs.forms.later_words.Given as goal

abbrev pub invariant-loop-word : goal.invariant-loop-word
invariant-loop-word l = record {
  first : take 6 (l.later.first.items ++ map word_of (words l.rest)) ≡ take 6 (map word_of (words l.line));
  few : length l.later.first.items ≤ 6;
  known : (l.later.known && list_all is_known (map word_of (words l.rest))) ≡ list_all is_known (map word_of (words l.line));
  no_number : (l.later.no_number || list_any is_no_number (map word_of (words l.rest))) ≡ list_any is_no_number (map word_of (words l.line));
}

abbrev pub decreases-loop-word : goal.decreases-loop-word
decreases-loop-word l = length l.rest
