use Rattle.std.proofs.Common.{◌&&◌, nat_le, rules, tests}
use Rattle.std.proofs.lemmas.Iterator.{YieldsList-from_slice}
use Rattle.std.proofs.lemmas.Iterator.Consumers.{YieldsList-from_filter_map}
use Rattle.std.proofs.lemmas.Iterator.Search.{all_from_yields_List}
use Rattle.regmodel.specs.Judging.{name_of}
use Rattle.regmodel.proofs.clauses.are_within.Goals as goal

pub returns : goal.returns
returns c =
    all_from_yields_List (λ m. nat_le c.args.low m && nat_le m c.args.high) _ _ c.all.result c.all.ensures.ran
    (YieldsList-from_filter_map _ name_of (YieldsList-from_slice c.args.ends.now cc) c.filter_map.ensures.closure (λ x r q k. search (rules, tests)))
    (λ m b q k. search (rules, tests))
