use Rattle.std.proofs.Common.{◌≡◌, ◌++◌, ◌∷◌, [], sym, subst, rules}
use Rattle.std.specs.Io.KnownBytes.{IsAtEnd}
use Rattle.std.proofs.lemmas.Result.{err_from_is_err_and}
use Rattle.merging.specs.Mergers.{HoldsRead, HoldsTexts, IsOneMore}
use Rattle.merging.proofs.Reading.{begun, fewer_unmarked, no_part, one_more, some_more, whole_text}
use Rattle.merging.proofs.mergers.Merger.read.Goals as goal

pub returns-in_err-next-clause-unread : goal.returns-in_err-next-clause-unread
returns-in_err-next-clause-unread g c =
    let p = err_from_is_err_and c.from_residual.result c.from_residual.ensures.1 in
    let last = g.R.ByteReader.left c.args.reader in
    rw (p.1, p.2) (λ texts h. c.in_err-next.ensures.unread texts last 0 (subst (λ left. HoldsRead texts last left 0 c.args.self.now) (sym c.new-stream.ensures) (begun texts last c.args.self.now h)))

pub returns-then-not-branch-clause-unread : goal.returns-then-not-branch-clause-unread
returns-then-not-branch-clause-unread g c =
    let end : IsAtEnd (g.R.ByteReader.left c.new-stream.result.reader) = search rules in
    λ texts h. no_part g.R.ByteReader.may_fail texts (g.R.ByteReader.left c.args.reader) (subst IsAtEnd c.new-stream.ensures end)

pub loop-stream-init : goal.loop-stream-init
loop-stream-init g c =
    let last = g.R.ByteReader.left c.args.reader in
    let begins = g.R.ByteReader.left c.new-stream.result.reader in
    let rest = g.R.ByteReader.left c.next.new.stream.reader in
    let more : IsOneMore (g.R.ByteReader.left c.new-stream.result.reader) (g.R.ByteReader.left c.next.new.stream.reader) c.args.self.now c.next.new.self = search rules in
    record {
      held = some_more begins rest c.args.self.now c.next.new.self more c.requires.some;
      read = λ before h. one_more before last begins rest 0 c.args.self.now c.next.new.self (subst (λ left. HoldsRead before last left 0 c.args.self.now) (sym c.new-stream.ensures) (begun before last c.args.self.now h)) more;
    }

pub returns-in_err-next-2-clause-unread : goal.returns-in_err-next-2-clause-unread
returns-in_err-next-2-clause-unread g c =
    let p = err_from_is_err_and c.from_residual-in_err-next-2.result c.from_residual-in_err-next-2.ensures.1 in
    rw (p.1, p.2) (λ texts h. c.in_err-next-2.ensures.unread texts (g.R.ByteReader.left c.args.reader) 1 (c.loop-stream.invariant.read texts h))

pub loop-stream-smaller : goal.loop-stream-smaller
loop-stream-smaller g c =
    let more : IsOneMore (g.R.ByteReader.left c.loop-stream.stream.reader) (g.R.ByteReader.left c.next-in-loop-stream.new.stream.reader) c.loop-stream.self c.next-in-loop-stream.new.self = search rules in
    let held = c.loop-stream.invariant.held in
    fewer_unmarked held.0 more.part c.loop-stream.self.joined c.next-in-loop-stream.new.self.joined held.2 held.1 (more.held held.0 held.1)

pub loop-stream-preserved : goal.loop-stream-preserved
loop-stream-preserved g c =
    let left = g.R.ByteReader.left c.loop-stream.stream.reader in
    let rest = g.R.ByteReader.left c.next-in-loop-stream.new.stream.reader in
    let more : IsOneMore (g.R.ByteReader.left c.loop-stream.stream.reader) (g.R.ByteReader.left c.next-in-loop-stream.new.stream.reader) c.loop-stream.self c.next-in-loop-stream.new.self = search rules in
    let held = c.loop-stream.invariant.held in
    record {
      held = some_more left rest c.loop-stream.self c.next-in-loop-stream.new.self more (held.0, held.1);
      read = λ before h. one_more before (g.R.ByteReader.left c.args.reader) left rest 1 c.loop-stream.self c.next-in-loop-stream.new.self (c.loop-stream.invariant.read before h) more;
    }

pub returns-clause-holds : goal.returns-clause-holds
returns-clause-holds g c =
    let last = g.R.ByteReader.left c.args.reader in
    let same : c.next-in-loop-stream.new.self ≡ c.loop-stream.self = search rules in
    let end : IsAtEnd (g.R.ByteReader.left c.loop-stream.stream.reader) = search rules in
    λ texts h. subst (HoldsTexts (texts ++ last ∷ [])) (sym same) (whole_text texts last (g.R.ByteReader.left c.loop-stream.stream.reader) c.loop-stream.self (c.loop-stream.invariant.read texts h) end)
