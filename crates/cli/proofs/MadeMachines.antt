-- Lists of machines that were made for a source.
use Rattle.std.proofs.Common.{◌≡◌, ◌+◌, ◌++◌, ◌∷◌, [], Bool, List, Vec, ap, arith, length, length-append}
use Rattle.std.specs.declared.alloc.Global.{Global}
use Rattle.machine.specs.Meaning.{Meaning, all_programs, all_resumed}
use Rattle.reglang.specs.Sources.{source_programs}
use Rattle.pieces.proofs.GrownLists.{All-before}
use Rattle.explorer.specs.declared.tasks.Job.{Job}
use Rattle.explorer.specs.Running.{AreMachinesOf}
use Rattle.explorer.specs.Tasks.{Understood}
use Rattle.cli.specs.Understanding.{AreMade, resumed_of_all}

-- the machines of a job: all lists that were made for its source, but the last
pub machines_before : {B J G U : Type 0} {means : B → Meaning} {understood : U → Understood} {job : Job J G U} {native : Bool} {others lists : List (Vec B Global)} (last : Vec B Global) → understood job.understanding.now ≡ resumed_of_all job.source.now native → lists ≡ others ++ last ∷ []
    → AreMade means job.source.now native (job.effort.settings.workers + 1) lists → AreMachinesOf means understood job others
machines_before {means = means} {job = job} {native = native} {others = others} {lists = lists} last same parted made = record {
  lists_are = (omega (arith, made.machines.0, ap length parted, length-append others (last ∷ [])), All-before (λ list. all_programs means list.items ≡ source_programs job.source.now) last others lists parted made.machines.1);
  understood_so = λ some. rw same (All-before (λ list. all_resumed means list.items ≡ resumed_of_all job.source.now native) last others lists parted made.understood);
}
