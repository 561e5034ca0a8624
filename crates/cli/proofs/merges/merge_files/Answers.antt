use Rattle.std.proofs.Common.{[], drop, map, ap, refl, sym}
use Rattle.std.specs.Result.{result_ok}
use Rattle.std.proofs.lemmas.List.{drop_all, get_or_default}
use Rattle.cli.proofs.FilesRead.{all_read, file_read, stopped}
use Rattle.cli.proofs.merges.merge_files.Goals as goal

pub loop-path-init : goal.loop-path-init
loop-path-init g c = record { read = []; texts = []; order = refl; opened = tt; holds = c.none-merger.ensures }

pub read_file-requires : goal.read_file-requires
read_file-requires g c =
    let held = c.loop-path.invariant.holds in
    record { some = (held.parts, held.held) }

pub loop-path-preserved : goal.loop-path-preserved
loop-path-preserved g c =
    let paths = c.args.paths.now in
    let i = c.loop-path.path-index in
    file_read (g.O.Opener.opens c.args.opener.now) g.O.Reader.Read.remaining (map (λ path. path.now) paths) (λ path. path.now) paths i _ (result_ok c.open.result) c.loop-path.merger c.read_file.new.merger
    c.loop-path-test.true (sym (get_or_default paths i _ _ c.loop-path-test.true)) c.loop-path.invariant c.open.ensures c.in_default.ensures.read

pub returns-in-Err : goal.returns-in-Err
returns-in-Err g c =
    let paths = c.args.paths.now in
    let i = c.loop-path.path-index in
    stopped (g.O.Opener.opens c.args.opener.now) g.O.Reader.Read.remaining (map (λ path. path.now) paths) g.W.Write.contents g.O.Reader.Bytes.ByteReader.may_fail (λ path. path.now) paths i _ (result_ok c.open.result) c.loop-path.merger c.in-Err.fault c.args.out.now c.args.out.now c.refuse.result
    c.loop-path-test.true (sym (get_or_default paths i _ _ c.loop-path-test.true)) c.loop-path.invariant c.open.ensures refl c.in-Err.ensures.refused c.refuse.ensures.value

pub returns : goal.returns
returns g c =
    let paths = c.args.paths.now in
    all_read (g.O.Opener.opens c.args.opener.now) g.O.Reader.Read.remaining (map (λ path. path.now) paths) g.W.Write.contents g.O.Reader.Bytes.ByteReader.may_fail (map (λ path. path.now) (drop c.loop-path.path-index paths)) c.loop-path.merger c.args.out.now c.write_all.new.out c.write_all.result
    (ap (map (λ path. path.now)) (drop_all c.loop-path.path-index paths c.loop-path-test.false)) c.loop-path.invariant c.write_all.ensures
