use Rattle.std.proofs.Common.{◌≡◌, sym, ◌∙◌}
use Rattle.part_texts.specs.Standings.{just}
use Rattle.part_texts.proofs.JustOnes.{outcome-fits, outcome-read}
use Rattle.part_texts.proofs.NoLines.{no_ends, no_pattern, outcome-count}
use Rattle.part_texts.proofs.outcomes.read_outcome.Goals as goal

pub returns-clause-some : goal.returns-clause-some
returns-clause-some c =
    let said : c.in-Ok.pattern ≡ just c.in_ok-ends.ends.items = sym c.standings.ensures.value ∙ c.in_ok-ends.ensures.some in
    rw c.new.ensures (outcome-read c.in-Ok.pattern c.in_ok-ends.ends.items c.args.text.now said c.in-Ok.ensures.ok)

pub returns-clause-fits : goal.returns-clause-fits
returns-clause-fits c =
    let said : c.in-Ok.pattern ≡ just c.in_ok-ends.ends.items = sym c.standings.ensures.value ∙ c.in_ok-ends.ensures.some in
    rw c.new.ensures (outcome-fits c.in-Ok.pattern c.in_ok-ends.ends.items said c.in-Ok.ensures.fits)

pub returns-in_default-clause-none : goal.returns-in_default-clause-none
returns-in_default-clause-none c = λ n ends some few fits. no_pattern n ends c.args.text.now some few fits c.in_default.ensures.err

pub returns-in_err-ends-clause-none : goal.returns-in_err-ends-clause-none
returns-in_err-ends-clause-none c = rw c.from_residual.ensures (λ n ends some few fits. no_ends n ends c.in-Ok.pattern c.args.text.now some few fits c.in-Ok.ensures.fits c.in-Ok.ensures.ok (λ v h. c.in_err-ends.ensures.none v (c.standings.ensures.value ∙ h)))

pub returns-clause-count : goal.returns-clause-count
returns-clause-count c =
    let said : c.in-Ok.pattern ≡ just c.in_ok-ends.ends.items = sym c.standings.ensures.value ∙ c.in_ok-ends.ensures.some in
    rw c.new.ensures (outcome-count c.in-Ok.pattern c.in_ok-ends.ends.items said c.in-Ok.ensures.fits)
