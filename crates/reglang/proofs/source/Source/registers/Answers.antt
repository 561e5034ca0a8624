use Rattle.reglang.proofs.Programs.{all_programs}
use Rattle.reglang.proofs.source.Source.registers.Goals as goal

pub returns-clause-programs : goal.returns-clause-programs
returns-clause-programs c = let s = c.args.self.now in all_programs s.registers s.processes.items s.fit
