use Rattle.std.proofs.Common.{◌≡◌, ap, length, refl, slice_get, sym, ◌∙◌, arith}
use Rattle.std.proofs.lemmas.Option.{slice_get_read}
use Rattle.reglang.specs.Checks.{check_lines}
use Rattle.reglang.specs.Sources.{check_lines_of, contents_of}
use Rattle.reglang.proofs.CheckLines.{line_of_each}
use Rattle.reglang.proofs.reader.Spelling.check_line.Goals as goal

pub unreachable-requires : goal.unreachable-requires
unreachable-requires c =
    let own = c.args.self.now in
    let kept : check_lines_of own.source.now ≡ check_lines own.text.now = search in
    let there = line_of_each own.text.now (contents_of own.source.now).clauses c.args.i (c.each_check_is_that_of_its_clause.ensures own.text.now (contents_of own.source.now) c.spells.ensures) c.requires.there in
    omega (arith, there, ap length (c.check_lines.ensures ∙ kept), c.in_default.ensures.lookup.3)

pub returns-clause-number : goal.returns-clause-number
returns-clause-number c =
    let own = c.args.self.now in
    let kept : check_lines_of own.source.now ≡ check_lines own.text.now = search in
    ap (λ lines. slice_get lines c.args.i) (sym (c.check_lines.ensures ∙ kept))
    ∙ slice_get_read c.check_lines.result.now _ c.args.i c.in-Some.line.now refl c.in-Some.ensures.lookup.3.0 c.in-Some.ensures.lookup.1

pub returns-clause-checks : goal.returns-clause-checks
returns-clause-checks c =
    let own = c.args.self.now in
    c.each_check_is_that_of_its_clause.ensures own.text.now (contents_of own.source.now) c.spells.ensures
