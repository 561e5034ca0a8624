use Rattle.std.proofs.Common.{◌≡◌, true, arith}
use Rattle.cli.specs.Progress.{is_round}
use Rattle.cli.proofs.progress.CountsText.put.Goals as goal

pub returns : goal.returns
returns g c =
    let round : is_round c.args.self.now.done ≡ true = grind (arith, c.is_round.ensures, c.if-not-is_round.false) in
    rw round c.put.ensures
