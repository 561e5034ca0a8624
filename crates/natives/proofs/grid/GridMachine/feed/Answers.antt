use Rattle.std.proofs.Common.{◌≡◌, suc, ◌+◌, ◌-◌, [], ◌∷◌, ap, sym, ◌∙◌, arith, rules}
use Rattle.regmodel.specs.declared.accesses.Pending.{Pending}
use Rattle.regmodel.specs.Prelude.{Replies}
use Rattle.regmodel.specs.Reply.{one}
use Rattle.natives.specs.declared.grid.Grid.{Grid}
use Rattle.natives.specs.declared.grid.GridStage.TheVariants.{At}
use Rattle.natives.specs.declared.splitters.SplitterStep.{SplitterStep}
use Rattle.natives.specs.declared.splitters.SplitterStep.TheVariants.{Marks, Tries, Closes, Looks}
use Rattle.natives.specs.Grids.{grid_from, grid_rest}
use Rattle.natives.specs.Splitters.{since_first}
use Rattle.natives.proofs.GridVisits.{IsVertex, vertex_there, from-open, from-right, from-down, from-marks, from-stops, from-closes}
use Rattle.natives.proofs.StepEnds.{reply-zero}
use Rattle.natives.proofs.grid.GridMachine.feed.Goals as goal

-- the vertex at which it stands
here : (m : Grid) → IsVertex m.base m.registers m.level m.vertex
here m = vertex_there m.base m.side m.registers m.level m.vertex m.few m.room m.sides m.inside m.some m.named

-- one more turn is left than there are after it
left : (m : Grid) → m.side - m.level ≡ suc (m.side - (m.level + 1))
left m = let h = m.inside in omega arith

module _ (m : Grid) where
  abbrev from : Replies → Pending
  from = grid_from m.base m.id m.registers (m.side - m.level) m.level m.vertex

  -- at a known step
  at_step : (known : SplitterStep) {step : SplitterStep} (s : Replies) → m.stage ≡ At step → step ≡ known → grid_rest from m.vertex m.stage s ≡ from (since_first known s)
  at_step known s e f = ap (λ x. grid_rest from m.vertex x s) e ∙ ap (λ x. from (since_first x s)) f

pub returns-in-Marks-clause-goes_on : goal.returns-in-Marks-clause-goes_on
returns-in-Marks-clause-goes_on c = λ s.
    let m = c.args.self.now in
    let marks = at_step m Marks [] c.in-At.is c.in-Marks.is ∙ from-marks m.base m.id m.registers _ _ m.level m.vertex (left m) (here m) in
    ap (λ r. from m (r ∷ s)) (sym (reply-zero _ _ _ c.args.reply.now marks c.requires))
    ∙ sym (at_step m Marks (c.args.reply.now ∷ s) c.in-At.is c.in-Marks.is)

pub returns-in-Tries-clause-goes_on : goal.returns-in-Tries-clause-goes_on
returns-in-Tries-clause-goes_on c = λ s.
    let m = c.args.self.now in
    c.go_to.ensures.goes_on s
    ∙ sym (from-right m.base m.id m.registers _ _ m.level m.vertex c.value_of-value.result (one 0) c.args.reply.now s (left m) (here m) (λ some. vertex_there m.base m.side m.registers (m.level + 1) (m.vertex + m.level + 2) m.few m.room m.sides (omega arith) (omega arith) (omega (arith, m.named))) (sym c.value_of-value.ensures) c.if-value-ne0.true)
    ∙ sym (at_step m Tries (c.args.reply.now ∷ s) c.in-At.is c.in-Tries.is)

pub returns-in-Tries-2-clause-goes_on : goal.returns-in-Tries-2-clause-goes_on
returns-in-Tries-2-clause-goes_on c = λ s.
    let m = c.args.self.now in
    sym (from-open m.base m.id m.registers _ _ m.level m.vertex (one 0) c.args.reply.now s (left m) (here m) (sym c.value_of-value.ensures ∙ c.if-value-ne0.false))
    ∙ sym (at_step m Tries (c.args.reply.now ∷ s) c.in-At.is c.in-Tries-2.is)

pub returns-in-Closes-clause-goes_on : goal.returns-in-Closes-clause-goes_on
returns-in-Closes-clause-goes_on c = λ s.
    let m = c.args.self.now in
    let closes = at_step m Closes [] c.in-At.is c.in-Closes.is ∙ from-closes m.base m.id m.registers _ _ m.level m.vertex (one 0) (left m) (here m) in
    let zero = reply-zero _ _ _ c.args.reply.now closes c.requires in
    ap (λ r. from m (one 0 ∷ one 0 ∷ r ∷ s)) (sym zero)
    ∙ sym (at_step m Closes (c.args.reply.now ∷ s) c.in-At.is c.in-Closes.is)

pub returns-in-Looks-clause-goes_on : goal.returns-in-Looks-clause-goes_on
returns-in-Looks-clause-goes_on c = λ s.
    let m = c.args.self.now in
    sym (from-stops m.base m.id m.registers _ _ m.level m.vertex (one 0) (one 0) c.args.reply.now s (left m) (here m) (sym c.value_of-value.ensures ∙ c.if-value-self.true))
    ∙ sym (at_step m Looks (c.args.reply.now ∷ s) c.in-At.is c.in-Looks.is)

pub returns-in-Looks-2-clause-goes_on : goal.returns-in-Looks-2-clause-goes_on
returns-in-Looks-2-clause-goes_on c = λ s.
    let m = c.args.self.now in
    c.go_to-in-Looks-2.ensures.goes_on s
    ∙ sym (from-down m.base m.id m.registers _ _ m.level m.vertex (one 0) (one 0) c.args.reply.now s (left m) (here m) (λ some. vertex_there m.base m.side m.registers (m.level + 1) (m.vertex + m.level + 1) m.few m.room m.sides (omega arith) (omega arith) (omega (arith, m.named))) (λ same. c.if-value-self.false (c.value_of-value.ensures ∙ same)))
    ∙ sym (at_step m Looks (c.args.reply.now ∷ s) c.in-At.is c.in-Looks-2.is)

pub returns-in-Tries-clause-same : goal.returns-in-Tries-clause-same
returns-in-Tries-clause-same c =
    let same = c.go_to.ensures.same in
    search rules

pub returns-in-Looks-2-clause-same : goal.returns-in-Looks-2-clause-same
returns-in-Looks-2-clause-same c =
    let same = c.go_to-in-Looks-2.ensures.same in
    search rules
