use Rattle.std.proofs.Common.{◌≡◌, ℕ, List, ◌∷◌, ◌++◌, length, ap, sym, ◌∙◌}
use Rattle.std.proofs.lemmas.Result.{err_from_is_err_and}
use Rattle.reglines.specs.declared.vocabulary.Property.{Property}
use Rattle.texts.proofs.Appending.{after_text, fault_before}
use Rattle.explanations.specs.ClauseForms.{clause_words, clauses_listed, parting}
use Rattle.explanations.proofs.clause_forms.+put_clauses.Goals as goal

-- the first clause, what parts it from the others, and these
first_of : (properties others : List Property) (property : Property) (word : List ℕ) → properties ≡ property ∷ others → word ≡ parting (length others) → clauses_listed properties ≡ (clause_words property ++ word) ++ clauses_listed others
first_of properties others property word e told = ap clauses_listed e ∙ ap (λ w. (clause_words property ++ w) ++ clauses_listed others) (sym told)

pub returns-in_err-put : goal.returns-in_err-put
returns-in_err-put g t c =
    let p = err_from_is_err_and c.from_residual.result c.from_residual.ensures.1 in
    let others = c.in-Some.others.now in
    rw (p.1, p.2, first_of c.args.properties.now others c.in-Some.property.now c.parting.result.now c.in-Some.ensures.cases.0 c.parting.ensures)
    (fault_before c.in_err-put.ensures (clauses_listed others))

pub returns : goal.returns
returns g t c =
    rw (first_of c.args.properties.now c.in-Some.others.now c.in-Some.property.now c.parting.result.now c.in-Some.ensures.cases.0 c.parting.ensures)
    (after_text c.in_ok-put.ensures c.put_clauses.ensures)
