use Rattle.std.proofs.Common.{◌≡◌, ◌++◌, map, take}
use Rattle.std.specs.List.{flat_map}
use Rattle.reglang.specs.Bodies.{body_of}
use Rattle.reglang.specs.Writing.{lines_text, process_lines}
use Rattle.reglang.proofs.writer.push_processes.Given as goal

abbrev pub invariant-loop-process : goal.invariant-loop-process
invariant-loop-process l = l.text.items ≡ l.initial.text.items ++ lines_text (flat_map process_lines (map body_of (take l.process-index l.processes)))
