-- Which simple statement a line is.
use Rattle.std.specs.Prelude.{Option, Some, None}
use Rattle.regmodel.specs.Program.{Simple, Assign, Read, Write, Scan, Emit}
use Rattle.reglines.specs.declared.arguments.Line.{Line}
use Rattle.reglines.specs.declared.arguments.Line.TheVariants as line

-- the simple statement that a line is, where it is one
abbrev pub simple_of : Line → Option Simple
simple_of (line.Set to value) = Some (Assign to value)
simple_of (line.Read to from) = Some (Read to from)
simple_of (line.Write to value) = Some (Write to value)
simple_of (line.Scan cell first count) = Some (Scan cell first count)
simple_of (line.Emit value) = Some (Emit value)
simple_of _ = None
