-- A text spells a source where it is known that it does: how it does so is then read.
use Rattle.std.proofs.Common.{◌≡◌, ℕ, List, Option, Some, None, Result, Ok, Err, refl, ap, subst}
use Rattle.std.proofs.Math.Logic.{∥∥₁_elim}
use Rattle.std.proofs.Props.{props}
use Rattle.std.proofs.lemmas.List.{length-map}
use Rattle.reglang.specs.Contents.{Contents, IsSourceWithin}
use Rattle.reglang.specs.Bodies.{body_of}
use Rattle.reglang.specs.Drafts.{Empty, read_from}
use Rattle.reglang.specs.Grammar.{Spells}
use Rattle.reglines.specs.Lines.{lines}
use Rattle.reglang.specs.Sources.{contents_of}
use Rattle.reglang.specs.Writing.{source_text}
use Rattle.reglang.specs.declared.reader.ReadFault.{ReadFault}
use Rattle.reglang.specs.declared.source.Source.{Source}
use Rattle.reglang.proofs.Programs.{all_bodies}
use Rattle.reglang.proofs.SourceTexts.{text_spells}
use Rattle.reglang.proofs.Readings.{one_source, read_spells, spelled_read}

-- a source is within the limits
pub source_within : (source : Source) → IsSourceWithin (contents_of source)
source_within source =
    let count = length-map source.processes.items body_of in
    record {
      some_register = source.some_register;
      few_registers = source.few_registers;
      some_process = rw count source.some_process;
      few_processes = rw count source.few_processes;
      processes = all_bodies source.registers source.processes.items source.fit;
      few_clauses = source.few_clauses;
      clauses_fit = source.clauses_fit;
    }

-- the text that is written of what was read
abbrev written : Result Contents ReadFault → Option (List ℕ)
written (Ok source) = Some (source_text source)
written (Err fault) = None

-- a text spells a source within the limits where the same text is written of what it is read as
spells_alike : (text : List ℕ) (source : Contents) (read : Result Contents ReadFault) → IsSourceWithin source → read_from Empty 0 (lines text) ≡ read → written read ≡ Some (source_text source) → Spells text source
spells_alike text source (Ok other) within is same =
    let spelled = read_spells text other is in
    let texts : source_text other ≡ source_text source = cc in
    let one = one_source (source_text source) other source (subst (λ t. Spells t other) texts (text_spells other spelled.within)) (text_spells source within) in
    subst (Spells text) one spelled
spells_alike text source (Err fault) within is same = absurd (cc same)

pub spells_known : (text : List ℕ) (source : Source) → ∥ Spells text (contents_of source) ∥₁ → Spells text (contents_of source)
spells_known text source known =
    spells_alike text (contents_of source) (read_from Empty 0 (lines text)) (source_within source) refl
    (∥∥₁_elim known (hlevel props) (λ spelled. ap written (spelled_read text (contents_of source) spelled)))
