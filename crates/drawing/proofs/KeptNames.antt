-- Names that are kept one after another.
use Rattle.std.proofs.Common.{◌≡◌, ℕ, ◌+◌, Bool, ◌||◌, true, false, List, [], ◌∷◌, ◌++◌, Option, None, Some, map, option_map, if◌then◌else◌, refl, sym, ap, ◌∙◌}
use Rattle.std.specs.List.{list_any, range_with_len}
use Rattle.regmodel.proofs.NumberedLists.{grown}
use Rattle.drawing.specs.declared.names.Name.{Name}
use Rattle.drawing.specs.RegisterNames.{RegisterNames, is_name, names_with, unless_given}

-- the bytes of a name, where there is one
abbrev pub bytes_of : Option Name → Option (List ℕ)
bytes_of name = option_map (λ n. n.bytes.now) name

-- what one name more comes to
one_name_more : (names told : RegisterNames) (last : Option (List ℕ)) → names_with names (told ++ last ∷ []) ≡ names_with names told ++ unless_given (names_with names told) last ∷ []
one_name_more names [] last = refl
one_name_more names (first ∷ told) last = one_name_more (names ++ unless_given names first ∷ []) told last

-- so the names of one register more
pub one_register_more : (f : ℕ → Option (List ℕ)) (r : ℕ) (kept more : RegisterNames) → kept ≡ names_with [] (map f (range_with_len 0 r)) → more ≡ kept ++ unless_given kept (f r) ∷ [] → more ≡ names_with [] (map f (range_with_len 0 (r + 1)))
one_register_more f r kept more is pushed =
    let told = map f (range_with_len 0 r) in
    pushed
    ∙ (ap (λ (k : RegisterNames). k ++ unless_given k (f r) ∷ []) is
    ∙ (sym (one_name_more [] told (f r))
    ∙ ap (names_with []) (grown f r told (told ++ f r ∷ []) (f r) refl refl refl)))

-- whether a name is among some is told of their bytes
any_of_bytes : (name : List ℕ) (names : List (Option Name)) → list_any (λ other. is_name name (bytes_of other)) names ≡ list_any (is_name name) (map bytes_of names)
any_of_bytes name [] = refl
any_of_bytes name (first ∷ names) = ap (λ (b : Bool). is_name name (bytes_of first) || b) (any_of_bytes name names)

-- a name that is among them is not given once more
pub none_given : (name : List ℕ) (names : List (Option Name)) → list_any (λ other. is_name name (bytes_of other)) names ≡ true → None ≡ unless_given (map bytes_of names) (Some name)
none_given name names given = sym (ap (λ (b : Bool). if b then None else Some name) (sym (any_of_bytes name names) ∙ given))

-- one that is not is
pub some_given : (name : List ℕ) (names : List (Option Name)) → list_any (λ other. is_name name (bytes_of other)) names ≡ false → Some name ≡ unless_given (map bytes_of names) (Some name)
some_given name names given = sym (ap (λ (b : Bool). if b then None else Some name) (sym (any_of_bytes name names) ∙ given))
