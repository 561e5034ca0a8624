-- Worked examples: the definitions compute.
use Rattle.std.specs.Prelude.{◌≡◌, ℕ, ◌-◌, Bool, true, false, List, [], ◌∷◌, ◌++◌, refl, None, Some, codes}
use Rattle.std.specs.Fmt.{digits}
use Rattle.regmodel.specs.declared.accesses.Access.{Access}
use Rattle.regmodel.specs.declared.accesses.Access.TheVariants as access
use Rattle.regmodel.specs.declared.schedules.Letter.TheVariants.{Run, Crash}
use Rattle.regmodel.specs.declared.outcomes.End.TheVariants as end
use Rattle.regmodel.specs.declared.statements.Expr.TheVariants.{One}
use Rattle.regmodel.specs.declared.statements.Operand.TheVariants as operand
use Rattle.regmodel.specs.declared.statements.Target.TheVariants as target
use Rattle.regmodel.specs.Program.{Assign, Do, Emit, Read, Stop, Write}
use Rattle.regmodel.specs.Wanted.{wanted_after}
use Rattle.regmodel.specs.Examples.{scans_two, two_writers, writer_and_reader}
use Rattle.reglang.specs.Contents.{Contents, Text}
use Rattle.drawing.specs.declared.drawings.Deed.TheVariants as deed
use Rattle.drawing.specs.declared.drawings.RegisterValue.{RegisterValue}
use Rattle.drawing.specs.declared.drawings.LetterRow.{LetterRow}
use Rattle.drawing.specs.Cells.{row_text}
use Rattle.breadths.specs.declared.breadths.Breadth.{Breadth}
use Rattle.breadths.specs.declared.breadths.Room.TheVariants.{Places, Usual, Whole}
use Rattle.drawing.specs.DrawingText.{drawing_text, left_out_text}
use Rattle.drawing.specs.Layout.{columns_shown, written_left_out}
use Rattle.drawing.specs.RegisterNames.{name_in, register_names}
use Rattle.drawing.specs.Pictures.{IsPictureOf, Picture, deed_by}
use Rattle.drawing.specs.Registers.{all_held}
use Rattle.drawing.specs.Stops.{stop_of, stops_after}
use Rattle.machine.specs.declared.culprits.Culprit.TheVariants.{Register}

abbrev kept : ℕ → RegisterValue
kept value = record { value = value; changed = false }

abbrev changed_to : ℕ → RegisterValue
changed_to value = record { value = value; changed = true }

-- as broad as usual, with lines of statements or without
abbrev usual : Bool → Breadth
usual lines = record { room = Usual; lines = lines }

-- ---- what letters do

pub a_run_reads :
    deed_by (Run 1) (wanted_after writer_and_reader (Run 0 ∷ []) 1)
    ≡ Some (deed.Did (access.Read 0))
a_run_reads = refl

pub a_run_scans :
    deed_by (Run 0) (wanted_after (scans_two ∷ []) [] 0) ≡ Some (deed.Did (access.Scan 0 2))
a_run_scans = refl

pub crash_reads_nothing :
    deed_by (Crash 1) (wanted_after writer_and_reader [] 1) ≡ Some deed.Crash
crash_reads_nothing = refl

pub first_register_changed : all_held two_writers 2 [] (Run 0 ∷ []) ≡ changed_to 5 ∷ kept 0 ∷ []
first_register_changed = refl

-- ---- a writer and a reader

-- the same as a source
abbrev writes_and_reads : Contents
writes_and_reads = record {
  registers = 1;
  processes = Text (Do (Write (operand.Number 0) (One (operand.Number 5))) Stop)
      ∷ Text (Do (Read (target.Var 0) (operand.Number 0)) (Do (Emit (One (operand.Var 0))) Stop))
      ∷ [];
  clauses = [];
}

-- the row of a letter of a process that stands at its first statement
abbrev first_row : ℕ → ℕ → Access → List RegisterValue → LetterRow
first_row number process done held = record {
  number = number;
  process = process;
  deed = deed.Did done;
  statement = Some 0;
  registers = record { items = held };
}

abbrev both : Picture
both = record {
  start = kept 0 ∷ [];
  rows =
      first_row 1 0 (access.Write 0 5) (changed_to 5 ∷ [])
      ∷ first_row 2 1 (access.Read 0) (kept 5 ∷ []) ∷ [];
  ends =
      record { started = true; fate = end.Done (record { items = [] }) }
      ∷ record { started = true; fate = end.Done (record { items = 5 ∷ [] }) } ∷ [];
  stops = None ∷ None ∷ [];
}

pub picture_of_both : IsPictureOf writes_and_reads (Run 0 ∷ Run 1 ∷ []) both
picture_of_both = record {
  start = refl;
  rows = (
    record { number = refl; process = refl; deed = refl; registers = refl; statement = refl },
    (record { number = refl; process = refl; deed = refl; registers = refl; statement = refl }, tt),
  );
  ends = refl;
  stops = refl;
}

pub text_of_both : drawing_text (usual false) [] both ≡
    codes "step  process 0        process 1           r0\n"
    ++ codes "0                                          0\n"
    ++ codes "1     write 0 5, done                      5*\n"
    ++ codes "2                      read 0 = 5, done 5  5\n"
    ++ codes "      done             done 5\n"
unfolding digits
text_of_both = refl

-- ---- where processes stop

-- one process has no statement, the other one stands at its second
abbrev stands_at_its_second : Contents
stands_at_its_second = record {
  registers = 2;
  processes =
      Text Stop
      ∷ Text (Do (Assign (target.Var 0) (One (operand.Number 5)))
      (Do (Write (operand.Number 0) (One (operand.Var 0))) Stop))
      ∷ [];
  clauses = [];
}

pub no_statement_and_its_second :
    stops_after stands_at_its_second [] ≡ None ∷ Some (record { at = 1; culprit = None }) ∷ []
no_statement_and_its_second = refl

pub a_use_line_is_the_only_one : stop_of None [] ≡ Some (record { at = 0; culprit = None })
a_use_line_is_the_only_one = refl

-- ---- names of registers

-- the first line that names a register counts; two words are no name, nor are more than 16 bytes
pub turn_is_named : register_names
    (codes "registers 2\n  # register 1: turn\n# register 1: other\n# register 0: two words\n") 2
    ≡ None ∷ Some (codes "turn") ∷ []
unfolding digits
turn_is_named = refl

-- a number is no name, nor is one that a register has
pub names_tell_apart : register_names
    (codes "# register 0: turn\n# register 1: r0\n# register 2: 0\n# register 3: turn\n") 4
    ≡ Some (codes "turn") ∷ None ∷ None ∷ None ∷ []
unfolding digits
names_tell_apart = refl

pub seventeen_bytes_are_no_name :
    name_in (codes "0:") (codes "# register 0: seventeen_letters") ≡ None
seventeen_bytes_are_no_name = refl

pub text_with_a_name : drawing_text (usual false) (codes "# register 0: flag\n") both ≡
    codes "step  process 0           process 1              flag\n"
    ++ codes "0                                                0\n"
    ++ codes "1     write flag 5, done                         5*\n"
    ++ codes "2                         read flag = 5, done 5  5\n"
    ++ codes "      done                done 5\n"
unfolding digits
text_with_a_name = refl

-- ---- lines of statements

pub text_with_lines :
    drawing_text (usual true)
    (codes "registers 1\nprocess\n write 0 5\nend\n#line 19\nprocess\n read v0 0\nend\n") both
    ≡
    codes "step  line  process 0        process 1           r0\n"
    ++ codes "0                                                0\n"
    ++ codes "1     3     write 0 5, done                      5*\n"
    ++ codes "2     20                     read 0 = 5, done 5  5\n"
    ++ codes "            done             done 5\n"
unfolding digits
text_with_lines = refl

-- ---- a fault

-- a process that scans two registers and names then one that is not there
abbrev scan_row : LetterRow
scan_row = first_row 1 0 (access.Scan 1 2) (kept 0 ∷ kept 7 ∷ kept 12 ∷ [])

abbrev faulty : Picture
faulty = record {
  start = kept 0 ∷ kept 7 ∷ kept 12 ∷ [];
  rows = scan_row ∷ [];
  ends = record { started = true; fate = end.Fault 2 } ∷ [];
  stops = Some (record { at = 1; culprit = Some (Register 9 3) }) ∷ [];
}

pub a_scan_and_a_fault_are_told : row_text [] faulty scan_row ≡ codes "scan 1 2 = 7 12, fault 2"
unfolding digits
a_scan_and_a_fault_are_told = refl

pub a_scan_from_a_named_register :
    row_text (None ∷ Some (codes "low") ∷ []) faulty scan_row
    ≡ codes "scan low .. 2 = 7 12, fault 2"
unfolding digits
a_scan_from_a_named_register = refl

-- ---- what is left out

-- the row of a letter of the only process, which takes its statements in turn
abbrev row_after : ℕ → Access → List RegisterValue → LetterRow
row_after number done held = record {
  number = number;
  process = 0;
  deed = deed.Did done;
  statement = Some (number - 1);
  registers = record { items = held };
}

-- a process that never names the first of four registers, reads the second one, writes 5 into the
-- third, and writes and reads the last one
abbrev four_uses : Picture
four_uses = record {
  start = kept 0 ∷ kept 0 ∷ kept 0 ∷ kept 0 ∷ [];
  rows =
      row_after 1 (access.Read 1) (kept 0 ∷ kept 0 ∷ kept 0 ∷ kept 0 ∷ [])
      ∷ row_after 2 (access.Write 2 5) (kept 0 ∷ kept 0 ∷ changed_to 5 ∷ kept 0 ∷ [])
      ∷ row_after 3 (access.Write 3 5) (kept 0 ∷ kept 0 ∷ kept 5 ∷ changed_to 5 ∷ [])
      ∷ row_after 4 (access.Read 3) (kept 0 ∷ kept 0 ∷ kept 5 ∷ kept 5 ∷ []) ∷ [];
  ends = record { started = true; fate = end.Done (record { items = [] }) } ∷ [];
  stops = None ∷ [];
}

-- in columns of width 30 two fit beside the letter's number: that of the process, and that of the
-- register which is written and read
pub the_one_that_is_written_and_read_is_kept :
    columns_shown four_uses (10 ∷ 30 ∷ 30 ∷ 30 ∷ 30 ∷ 30 ∷ []) Usual ≡ 0 ∷ 1 ∷ 5 ∷ []
the_one_that_is_written_and_read_is_kept = refl

pub then_the_one_that_is_written :
    columns_shown four_uses (10 ∷ 30 ∷ 30 ∷ 30 ∷ 30 ∷ 30 ∷ []) (Places 106) ≡ 0 ∷ 1 ∷ 4 ∷ 5 ∷ []
then_the_one_that_is_written = refl

pub then_the_one_that_is_read :
    columns_shown four_uses (10 ∷ 30 ∷ 30 ∷ 30 ∷ 30 ∷ 30 ∷ []) (Places 138) ≡ 0 ∷ 1 ∷ 3 ∷ 4 ∷ 5 ∷ []
then_the_one_that_is_read = refl

pub all_are_shown :
    columns_shown four_uses (10 ∷ 30 ∷ 30 ∷ 30 ∷ 30 ∷ 30 ∷ []) Whole ≡ 0 ∷ 1 ∷ 2 ∷ 3 ∷ 4 ∷ 5 ∷ []
all_are_shown = refl

-- ---- how many are left out

pub both_that_are_written : written_left_out four_uses (0 ∷ 1 ∷ 3 ∷ []) ≡ 2
both_that_are_written = refl

pub one_that_is_written : written_left_out four_uses (0 ∷ 1 ∷ 5 ∷ []) ≡ 1
one_that_is_written = refl

pub none_that_is_written : written_left_out four_uses (0 ∷ 1 ∷ 4 ∷ 5 ∷ []) ≡ 0
none_that_is_written = refl

pub text_of_two_left_out :
    left_out_text 2 3 0 ≡ codes "left out: 2 of 3 registers; --all draws all\n"
unfolding digits
text_of_two_left_out = refl

pub text_of_one_that_is_written :
    left_out_text 3 4 1 ≡ codes "left out: 3 of 4 registers, 1 of them written; --all draws all\n"
unfolding digits
text_of_one_that_is_written = refl
