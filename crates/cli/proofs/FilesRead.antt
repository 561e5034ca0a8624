-- Files whose parts were read one after another.
use Rattle.std.proofs.Common.{◌≡◌, ℕ, ◌+◌, ◌<◌, List, [], ◌∷◌, ◌++◌, Option, Some, None, get_or, length, drop, map, inl, inr, refl, ap, sym, subst, ◌∙◌, append_assoc, arith}
use Rattle.std.specs.List.{AllZip}
use Rattle.merging.specs.Mergers.{HoldsTexts}
use Rattle.merging.specs.Unmerged.{AreIncomplete, AreIncompleteBy}
use Rattle.merging.specs.declared.faults.MergeFault.{MergeFault}
use Rattle.merging.specs.declared.faults.MergeFault.TheVariants as merging
use Rattle.merging.specs.declared.mergers.Merger.{Merger}
use Rattle.orders.specs.Inputs.{IsNoFile}
use Rattle.orders.specs.Statuses as orders
use Rattle.orders.specs.declared.refusals.Refusal.{Refusal}
use Rattle.orders.specs.declared.refusals.Refusal.TheVariants.{Words, Setting, Bound, Registers, Schedule, Pattern, PatternLine, TwiceStandard, File, LongFile, Memory}
use Rattle.cli.specs.Merges.{AreAllRead, IsFileRead, IsMergePerformed, IsNotRead, IsTextAt, IsUnreadFor, Texts}
use Rattle.cli.specs.Statuses.{merge_status, status_of}
use Rattle.cli.specs.declared.faults.AnswerFault.{AnswerFault}
use Rattle.cli.specs.declared.faults.AnswerFault.TheVariants.{Refused, Misfit, Source, Letter, Merge, Run, Write}
use Rattle.cli.proofs.Steps.{next_place}

-- the files of the paths before those that are left have these texts, of which all parts are held
pub record AreFilesRead {R : Type 0} (opens : List ℕ → Option R → Type 0) (remaining : R → Option (List ℕ)) (paths left : List (List ℕ)) (merger : Merger) : Type 0 where
  pub read : List (List ℕ)
  pub texts : Texts
  pub order : read ++ left ≡ paths
  pub opened : AllZip (IsTextAt opens remaining) read texts
  pub holds : HoldsTexts texts merger

zip_more : {X Y : Type 0} (R : X → Y → Type 0) (xs : List X) (ys : List Y) (x : X) (y : Y) → AllZip R xs ys → R x y → AllZip R (xs ++ x ∷ []) (ys ++ y ∷ [])
zip_more R [] [] x y h r = (r, tt)
zip_more R [] (b ∷ ys) x y h r = absurd h
zip_more R (a ∷ xs) [] x y h r = absurd h
zip_more R (a ∷ xs) (b ∷ ys) x y h r = (h.0, zip_more R xs ys x y h.1 r)

module _ {R : Type 0} (opens : List ℕ → Option R → Type 0) (remaining : R → Option (List ℕ)) (paths : List (List ℕ)) where
  -- the file of one more path is read
  next_read : (path : List ℕ) (left : List (List ℕ)) (opened : Option R) (old new : Merger) → AreFilesRead opens remaining paths (path ∷ left) old → opens path opened → IsFileRead remaining opened old new → AreFilesRead opens remaining paths left new
  next_read path left opened old new before there is_read = record {
    read = before.read ++ path ∷ [];
    texts = before.texts ++ remaining is_read.file ∷ [];
    order = append_assoc before.read (path ∷ []) left ∙ before.order;
    opened = zip_more (IsTextAt opens remaining) before.read before.texts path (remaining is_read.file) before.opened (record { file = is_read.file; opened = subst (opens path) is_read.file_is there; text_is = refl });
    holds = is_read.holds before.texts before.holds;
  }

  pub file_read : {X : Type 0} (f : X → List ℕ) (xs : List X) (i : ℕ) (x : X) (opened : Option R) (old new : Merger) → i < length xs → x ≡ get_or xs i x → AreFilesRead opens remaining paths (map f (drop i xs)) old → opens (f x) opened → IsFileRead remaining opened old new → AreFilesRead opens remaining paths (map f (drop (i + 1) xs)) new
  file_read f xs i x opened old new inside e before there is_read =
      next_read (f x) (map f (drop (i + 1) xs)) opened old new (subst (λ left. AreFilesRead opens remaining paths (map f left) old) (next_place xs i x inside e) before) there is_read

  module _ {W : Type 0} (contents : W → Option (List ℕ)) (may_fail : Type 0) where
    -- all were read
    pub all_read : (left : List (List ℕ)) (merger : Merger) (old new : W) (status : ℕ) → left ≡ [] → AreFilesRead opens remaining paths left merger → ((texts : Texts) → HoldsTexts texts merger → AreAllRead contents texts old new status) → IsMergePerformed contents remaining may_fail opens paths old new status
    all_read left merger old new status none before done = record {
      read = before.read;
      left = [];
      texts = before.texts;
      order = ap (λ rest. before.read ++ rest) (sym none) ∙ before.order;
      opened = before.opened;
      done = done before.texts before.holds;
    }

    no_file_status : (refused : Refusal) → IsNoFile refused → orders.status_of refused ≡ 2
    no_file_status (File why) h = refl
    no_file_status Words h = absurd h
    no_file_status (Setting code) h = absurd h
    no_file_status (Bound bound) h = absurd h
    no_file_status Registers h = absurd h
    no_file_status Schedule h = absurd h
    no_file_status (Pattern place standing) h = absurd h
    no_file_status (PatternLine place standing) h = absurd h
    no_file_status TwiceStandard h = absurd h
    no_file_status LongFile h = absurd h
    no_file_status Memory h = absurd h

    not_read : (texts : Texts) (opened : Option R) (fault : AnswerFault) (status : ℕ) → IsUnreadFor remaining may_fail texts opened fault → status ≡ status_of fault → IsNotRead remaining may_fail texts opened status
    not_read texts None (Refused refused) status h e = e ∙ no_file_status refused h
    not_read texts None (Misfit place) status h e = absurd h
    not_read texts None (Source rejection) status h e = absurd h
    not_read texts None (Letter refused) status h e = absurd h
    not_read texts None (Merge merge) status h e = absurd h
    not_read texts None (Run run) status h e = absurd h
    not_read texts None Write status h e = absurd h
    not_read texts (Some file) (Refused refused) status h e = inl (e ∙ ap (λ r. status_of (Refused r)) h)
    not_read texts (Some file) (Merge merge) status h e = inr (record { fault = merge; why = h; status_is = e })
    not_read texts (Some file) (Misfit place) status h e = absurd h
    not_read texts (Some file) (Source rejection) status h e = absurd h
    not_read texts (Some file) (Letter refused) status h e = absurd h
    not_read texts (Some file) (Run run) status h e = absurd h
    not_read texts (Some file) Write status h e = absurd h

    -- the file of one more path is not read
    pub stopped : {X : Type 0} (f : X → List ℕ) (xs : List X) (i : ℕ) (x : X) (opened : Option R) (merger : Merger) (fault : AnswerFault) (old new : W) (status : ℕ) → i < length xs → x ≡ get_or xs i x → AreFilesRead opens remaining paths (map f (drop i xs)) merger → opens (f x) opened → new ≡ old → ((texts : Texts) → HoldsTexts texts merger → IsUnreadFor remaining may_fail texts opened fault) → status ≡ status_of fault → IsMergePerformed contents remaining may_fail opens paths old new status
    stopped f xs i x opened merger fault old new status inside e before there silent why status_is = record {
      read = before.read;
      left = f x ∷ map f (drop (i + 1) xs);
      texts = before.texts;
      order = ap (λ left. before.read ++ map f left) (sym (next_place xs i x inside e)) ∙ before.order;
      opened = before.opened;
      done = (silent, record { file = opened; opened = there; why = not_read before.texts opened fault status (why before.texts before.holds) status_is });
    }

-- ---- parts that are missing

incomplete_status : (texts : Texts) (fault : MergeFault) → AreIncompleteBy texts fault → merge_status fault ≡ 2
incomplete_status texts merging.Nothing h = refl
incomplete_status texts (merging.Missing missing) h = refl
incomplete_status texts (merging.Text bad) h = absurd h
incomplete_status texts (merging.Misfit number other misfit) h = absurd h
incomplete_status texts merging.Sought h = absurd h
incomplete_status texts (merging.Twice number) h = absurd h
incomplete_status texts merging.TooMany h = absurd h
incomplete_status texts merging.NoMemory h = absurd h

-- all were read, and parts are missing
pub some_missing : {W : Type 0} (contents : W → Option (List ℕ)) (texts : Texts) (fault : MergeFault) (old new : W) (status : ℕ) → new ≡ old → status ≡ merge_status fault → AreIncomplete texts fault → AreAllRead contents texts old new status
some_missing contents texts fault old new status silent status_is h =
    let two : status ≡ 2 = status_is ∙ incomplete_status texts fault h.told in
    record {
      merged = λ low. absurd (omega (arith, low, two));
      missing = λ _. (silent, (fault, h));
      cut_short = λ high. absurd (omega (arith, high, two));
      status_is = omega (arith, two);
    }
