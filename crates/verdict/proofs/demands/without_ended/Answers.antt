use Rattle.std.proofs.Common.{rules, not, ap, ◌∙◌}
use Rattle.std.specs.List.{filter}
use Rattle.arrayvec.proofs.ArrayVecLemmas.{filter-from_retain}
use Rattle.verdict.specs.Demands.{is_ended}
use Rattle.verdict.proofs.demands.without_ended.Goals as goal

pub returns : goal.returns
returns c =
    c.new.ensures ∙ filter-from_retain _ (λ clause. not (is_ended clause)) _ (λ x b f' y called. search rules) _ _ c.retain.ensures.filtered
    ∙ ap (filter (λ clause. not (is_ended clause))) ((rw c.unwrap-asked.ensures at c.try_from.ensures).0 ∙ c.list.ensures.value)
