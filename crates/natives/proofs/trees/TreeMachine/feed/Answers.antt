use Rattle.std.proofs.Common.{ap, sym, ◌∙◌}
use Rattle.natives.specs.declared.trees.TreeStage.TheVariants.{At}
use Rattle.natives.proofs.TreeStages.{opens, goes_right, goes_down, stops, leaves, unmarked}
use Rattle.natives.proofs.trees.TreeMachine.feed.Goals as goal

pub returns-in-Tries-clause-goes_on : goal.returns-in-Tries-clause-goes_on
returns-in-Tries-clause-goes_on c = λ s.
    c.go_to.ensures.goes_on s ∙ goes_right c.args.self.now c.value_of-value.result c.args.reply.now s (c.in-At.is ∙ ap At c.in-Tries.is) (sym c.value_of-value.ensures) c.if-value-ne0.true

pub returns-in-Looks-clause-goes_on : goal.returns-in-Looks-clause-goes_on
returns-in-Looks-clause-goes_on c = λ s.
    stops c.args.self.now c.args.reply.now s (c.in-At.is ∙ ap At c.in-Looks.is) (sym c.value_of-value.ensures ∙ c.if-value-self.true)

pub returns-in-Looks-2-clause-goes_on : goal.returns-in-Looks-2-clause-goes_on
returns-in-Looks-2-clause-goes_on c = λ s.
    c.go_to-in-Looks-2.ensures.goes_on s ∙ goes_down c.args.self.now c.args.reply.now s (c.in-At.is ∙ ap At c.in-Looks-2.is) (λ same. c.if-value-self.false (c.value_of-value.ensures ∙ same))

pub returns-in-Leaves-clause-goes_on : goal.returns-in-Leaves-clause-goes_on
returns-in-Leaves-clause-goes_on c = λ s.
    c.collect.ensures.goes_on s ∙ leaves c.args.self.now c.args.reply.now s c.in-Leaves.is

pub returns-in-Sees-2-clause-goes_on : goal.returns-in-Sees-2-clause-goes_on
returns-in-Sees-2-clause-goes_on c = λ s.
    c.go_past.ensures.goes_on s ∙ unmarked c.args.self.now c.in-Sees-2.vertex c.args.reply.now s c.in-Sees-2.is (sym c.value_of-value.ensures ∙ c.if-value-ne0-2.false)

pub returns-in-Tries-2-clause-goes_on : goal.returns-in-Tries-2-clause-goes_on
returns-in-Tries-2-clause-goes_on c = λ s.
    opens c.args.self.now c.args.reply.now s (c.in-At.is ∙ ap At c.in-Tries-2.is) (sym c.value_of-value.ensures ∙ c.if-value-ne0.false)

pub returns-in-Tries-clause-same : goal.returns-in-Tries-clause-same
returns-in-Tries-clause-same c = c.go_to.ensures.same

pub returns-in-Looks-2-clause-same : goal.returns-in-Looks-2-clause-same
returns-in-Looks-2-clause-same c = c.go_to-in-Looks-2.ensures.same

pub returns-in-Leaves-clause-same : goal.returns-in-Leaves-clause-same
returns-in-Leaves-clause-same c = c.collect.ensures.same

pub returns-in-Sees-2-clause-same : goal.returns-in-Sees-2-clause-same
returns-in-Sees-2-clause-same c = c.go_past.ensures.same

pub returns-in-Takes-clause-same : goal.returns-in-Takes-clause-same
returns-in-Takes-clause-same c = c.take.ensures.same
