use Rattle.std.proofs.Common.{arith, rules}
use Rattle.std.specs.Io.KnownBytes.{IsAtEnd}
use Rattle.std.proofs.lemmas.Result.{err_from_is_err_and}
use Rattle.part_texts.proofs.WholeTexts.{bytes_there}
use Rattle.part_texts.proofs.streams.PartStream.bytes.Goals as goal

pub returns-in_err-byte-clause-whole : goal.returns-in_err-byte-clause-whole
returns-in_err-byte-clause-whole g c =
    let kept = c.loop.invariant in
    let p = err_from_is_err_and c.from_residual-in_err-byte.result c.from_residual-in_err-byte.ensures.1 in
    let end : IsAtEnd (g.R.ByteReader.left c.loop.self.reader) = search rules in
    rw p.1 (λ text enough e. absurd (bytes_there _ _ c.loop.bytes.items text c.args.count kept.taken end (omega (arith, kept.count)) enough e))
