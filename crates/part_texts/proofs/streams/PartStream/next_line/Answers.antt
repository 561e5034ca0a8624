use Rattle.std.proofs.Common.{◌≡◌, ◌∷◌, ◌++◌, [], ◌&&◌, not, eqb, false, true, ap, arith, rules, length, length-append}
use Rattle.std.specs.Io.KnownBytes.{Consumes, IsAtEnd}
use Rattle.std.proofs.KnownBytes.{Consumes-trans}
use Rattle.std.proofs.lemmas.Result.{err_from_is_err_and}
use Rattle.texts.proofs.Bytes.{has_no-append}
use Rattle.part_texts.proofs.WholeTexts.{not_ended, within_line}
use Rattle.part_texts.proofs.streams.PartStream.next_line.Goals as goal

pub loop-byte-preserved : goal.loop-byte-preserved
loop-byte-preserved g c =
    let kept = c.loop-byte.invariant in
    let pushed : c.try_push.new.self.items ≡ c.loop-byte.self.line.items ++ c.in-Some.byte ∷ [] = search rules in
    let read : Consumes (g.R.ByteReader.left c.loop-byte.self.reader) (g.R.ByteReader.left c.next_byte.new.self) (c.in-Some.byte ∷ []) = search rules in
    let other : eqb c.in-Some.byte 10 ≡ false = search rules in
    record {
      taken = rw pushed (Consumes-trans _ _ _ _ _ kept.taken read);
      one = rw pushed (has_no-append 10 c.loop-byte.self.line.items (c.in-Some.byte ∷ []) kept.one (ap (λ b. not b && true) other));
    }

pub returns-in_err-map_err-in-Some-clause-whole : goal.returns-in_err-map_err-in-Some-clause-whole
returns-in_err-map_err-in-Some-clause-whole g c =
    let kept = c.loop-byte.invariant in
    let full : length c.loop-byte.self.line.items ≡ 1024 = search rules in
    let read : Consumes (g.R.ByteReader.left c.loop-byte.self.reader) (g.R.ByteReader.left c.next_byte.new.self) (c.in-Some.byte ∷ []) = search rules in
    let other : eqb c.in-Some.byte 10 ≡ false = search rules in
    let p = err_from_is_err_and c.from_residual-in_err-map_err-in-Some.result c.from_residual-in_err-map_err-in-Some.ensures.1 in
    rw p.1 (λ line rest fits e.
    let within = within_line _ _ (c.loop-byte.self.line.items ++ c.in-Some.byte ∷ []) line rest (has_no-append 10 c.loop-byte.self.line.items (c.in-Some.byte ∷ []) kept.one (ap (λ b. not b && true) other)) (Consumes-trans _ _ _ _ _ kept.taken read) e in
    absurd (omega (arith, within, fits.short, full, length-append c.loop-byte.self.line.items (c.in-Some.byte ∷ []))))

pub returns-in-None-2-clause-whole : goal.returns-in-None-2-clause-whole
returns-in-None-2-clause-whole g c =
    let end : IsAtEnd (g.R.ByteReader.left c.loop-byte.self.reader) = search rules in
    λ line rest fits e. absurd (not_ended _ _ c.loop-byte.self.line.items line rest c.loop-byte.invariant.one c.loop-byte.invariant.taken end e)
