use Rattle.std.proofs.Common.{subst}
use Rattle.texts.specs.Appending.{Puts, write_fault_of}
use Rattle.verdict.specs.VerdictText.{held_text, reach_of}
use Rattle.verdict.proofs.verdict_text.JudgedText.put.Goals as goal

pub returns-in-Holds : goal.returns-in-Holds
returns-in-Holds g c =
    let held = c.in-Holds.held in
    rw c.in-Holds.is
    (subst (λ gaps. Puts (g.W.Write.contents c.args.out.now) c.args.block.now (g.W.Write.contents c.put-in-Holds.new.out) c.put-in-Holds.new.block (held_text c.args.self.now.topic.path.now c.args.self.now.topic.text.now (reach_of held.exploration) held.asked gaps) (write_fault_of c.put-in-Holds.result)) c.as_slice.ensures.value (rw c.reach_of-reach.ensures at c.put-in-Holds.ensures))
