use Rattle.reglang.proofs.Programs.{program_at}
use Rattle.reglang.proofs.source.Source.prog.Goals as goal

pub returns : goal.returns
returns c =
    let source = c.args.self.now in
    program_at source.registers source.processes.items c.args.p c.index.result.now c.requires c.index.ensures c.prog.result (rw (← c.registers.ensures.value) c.prog.ensures)
