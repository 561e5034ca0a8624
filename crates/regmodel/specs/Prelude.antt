-- The words of the model that most clauses and proofs cite, passed on from one place. Declares
-- nothing.
pub use Rattle.regmodel.specs.Letters.{Schedule, process_of, letter_cmp, schedule_cmp, letter_at, is_crash, is_crash_of, is_run_of}
pub use Rattle.regmodel.specs.Program.{Program, Block}
pub use Rattle.regmodel.specs.OfProg.{program_of}
pub use Rattle.regmodel.specs.Blocks.{block_of, with_stmt}
pub use Rattle.regmodel.specs.Act.{act_of, exec, Flow, flow_pending, then_do, times}
pub use Rattle.regmodel.specs.Values.{Env}
pub use Rattle.regmodel.specs.Reply.{Replies}
pub use Rattle.regmodel.specs.Replies.{replies, pending_at, pending_after, value_after}
pub use Rattle.regmodel.specs.Wanted.{access_of, wanted_after}
pub use Rattle.regmodel.specs.Footprints.{footprint_of}
pub use Rattle.regmodel.specs.Lawful.{IsReplyTo, IsAccessWithin}
pub use Rattle.regmodel.specs.Limits.{IsWithin}
pub use Rattle.regmodel.specs.Schedules.{IsFull, IsSchedule, is_possible, may_go, wants_access}
pub use Rattle.regmodel.specs.AllSchedules.{possible_letters}
pub use Rattle.regmodel.specs.Outcomes.{outcome_of, outcome_cmp, proc_end}
pub use Rattle.regmodel.specs.Summary.{Summary, first_refused}
