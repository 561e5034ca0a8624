use Rattle.std.proofs.Common.{Ok, ap, sym, ◌∙◌, arith}
use Rattle.std.specs.List.{count_by}
use Rattle.regmodel.specs.Prelude.{block_of}
use Rattle.reglang.specs.Drafts.{contents_before, entered, is_turn}
use Rattle.reglang.specs.declared.draft.Open.TheVariants.{Turn}
use Rattle.reglang.proofs.OneLineMore.{answered, entered_repeat, no_more_turns}
use Rattle.reglang.proofs.draft.OpenProcess.enter_repeat.Goals as goal

pub returns-then-open_repeats : goal.returns-then-open_repeats
returns-then-open_repeats c =
    let process = c.args.self in
    let count = c.open_repeats.ensures ∙ ap (count_by is_turn) c.as_slice.ensures.value in
    no_more_turns (contents_before process.before) process.blocks.items (block_of process.block.items) process.statements c.args.count
    (sym c.may_enter.ensures ∙ c.if-not-may_enter.false) (sym c.fits.ensures ∙ c.if-not-fits.false) (omega (arith, count, c.if-open_repeats.true))

pub returns : goal.returns
returns c =
    let process = c.args.self in
    let count = c.open_repeats.ensures ∙ ap (count_by is_turn) c.as_slice.ensures.value in
    answered _ _ _ c.enter.ensures
    (entered_repeat (contents_before process.before) process.blocks.items (block_of process.block.items) process.statements c.args.count
    (sym c.may_enter.ensures ∙ c.if-not-may_enter.false) (sym c.fits.ensures ∙ c.if-not-fits.false) (omega (arith, count, c.if-open_repeats.false))
    ∙ ap (λ block. Ok (entered process.before (Turn c.args.count block) process.blocks.items process.statements)) (sym c.replace-outer.ensures.value))
