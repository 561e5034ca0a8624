-- Numbers told by bytes, read one or two at a time.
use Rattle.std.proofs.Common.{◌≡◌, ℕ, zero, suc, ◌+◌, ◌-◌, ◌*◌, ◌%◌, ◌/◌, ◌<◌, ◌≤◌, Bool, true, false, List, [], ◌∷◌, ◌++◌, append-nil, append_assoc, length, take, get_or, ap, sym, subst, ◌∙◌, arith}
use Rattle.std.specs.List.{flat_map}
use Rattle.std.proofs.lemmas.List.{get_or-take, get_or_at, take_all, take_more, length-append, length-take-le, take-append-le, take-take}
use Rattle.std.proofs.lemmas.Grind.{flat_map-append}
use Rattle.std.specs.Prelude.{if◌then◌else◌, nat_lt}
use Rattle.std.proofs.lemmas.Bool.Decides.{nat_tests}
use Rattle.std.proofs.Math.Seq.{take-append-add, take-append_seam}
use Rattle.told.specs.Bytes.{both_of, bytes_of, numbers_of, numbers_past, pair_at, size_of}
use Rattle.told.specs.Wholes.{AreWhole, EndAlone}
use Rattle.told.specs.declared.bytes.TheConstants.{ALONE, FOUR, LARGE, SMALL, TWO}

-- ---- the numbers of one byte and of a few

-- what bytes tell of which the first is this one, by what kind of byte it is
abbrev by_kind : ℕ → List ℕ → Bool → Bool → Bool → List ℕ
by_kind byte more is_both is_alone is_two =
    if is_both then byte / SMALL ∷ byte % SMALL ∷ numbers_past 0 more
    else if is_alone then (byte - ALONE) ∷ numbers_past 0 more
    else if is_two then (256 * (byte - TWO) + get_or more 0 0) ∷ numbers_past 1 more
    else (pair_at more 0 + 65536 * pair_at more 2) ∷ numbers_past 4 more

-- the byte of two small numbers tells both
pub both_told : (first second : ℕ) (more : List ℕ) → first < SMALL → second < SMALL → numbers_of (both_of first second ∷ more) ≡ first ∷ second ∷ numbers_of more
both_told first second more h k =
    let test : nat_lt (both_of first second) ALONE ≡ true = grind (arith, nat_tests) in
    let one : both_of first second / SMALL ≡ first = omega (arith, h, k) in
    let other : both_of first second % SMALL ≡ second = omega (arith, h, k) in
    ap (λ t. by_kind (both_of first second) more t (nat_lt (both_of first second) TWO) (nat_lt (both_of first second) FOUR)) test
    ∙ (ap (λ n. n ∷ (both_of first second % SMALL) ∷ numbers_of more) one ∙ ap (λ n. first ∷ n ∷ numbers_of more) other)

-- that of one tells it
pub alone_told : (number : ℕ) (more : List ℕ) → number < SMALL → numbers_of ((ALONE + number) ∷ more) ≡ number ∷ numbers_of more
alone_told number more h =
    let large : nat_lt (ALONE + number) ALONE ≡ false = grind (arith, nat_tests) in
    let below : nat_lt (ALONE + number) TWO ≡ true = grind (arith, nat_tests) in
    let is : ALONE + number - ALONE ≡ number = omega arith in
    ap (λ t. by_kind (ALONE + number) more t (nat_lt (ALONE + number) TWO) (nat_lt (ALONE + number) FOUR)) large
    ∙ (ap (λ t. by_kind (ALONE + number) more false t (nat_lt (ALONE + number) FOUR)) below ∙ ap (λ n. n ∷ numbers_of more) is)

-- the two bytes of a number tell it
pub two_told : (number : ℕ) (more : List ℕ) → number < LARGE → numbers_of ((TWO + number / 256) ∷ number % 256 ∷ more) ≡ number ∷ numbers_of more
two_told number more h =
    let byte = TWO + number / 256 in
    let behind = number % 256 ∷ more in
    let large : nat_lt byte ALONE ≡ false = grind (arith, nat_tests) in
    let above : nat_lt byte TWO ≡ false = grind (arith, nat_tests) in
    let few : number / 256 < 15 = omega (arith, h) in
    let below : nat_lt byte FOUR ≡ true = grind (arith, nat_tests) in
    let is : 256 * (byte - TWO) + number % 256 ≡ number = omega arith in
    ap (λ t. by_kind byte behind t (nat_lt byte TWO) (nat_lt byte FOUR)) large
    ∙ (ap (λ t. by_kind byte behind false t (nat_lt byte FOUR)) above
    ∙ (ap (λ t. by_kind byte behind false false t) below ∙ ap (λ n. n ∷ numbers_of more) is))

-- ---- whole bytes

-- bytes that tell one number, whatever stands behind them, tell it alone, and are whole
pub record TellOne (bytes : List ℕ) (number : ℕ) : Type 0 where
  pub told : numbers_of bytes ≡ number ∷ []
  pub whole : AreWhole bytes

pub tell_one : (bytes : List ℕ) (number : ℕ) → ((more : List ℕ) → numbers_of (bytes ++ more) ≡ number ∷ numbers_of more) → TellOne bytes number
tell_one bytes number tells =
    let is : numbers_of bytes ≡ number ∷ [] = ap numbers_of (sym (append-nil bytes)) ∙ tells [] in
    record { told = is; whole = λ more. tells more ∙ ap (λ numbers. numbers ++ numbers_of more) (sym is) }

-- a small number in a byte of its own
pub alone : (number : ℕ) → number < SMALL → TellOne ((ALONE + number) ∷ []) number
alone number h = tell_one ((ALONE + number) ∷ []) number (λ more. alone_told number more h)

-- whole bytes behind others are whole with them
pub whole_behind : (xs ys : List ℕ) → AreWhole xs → AreWhole ys → AreWhole (xs ++ ys)
whole_behind xs ys some others more =
    ap numbers_of (append_assoc xs ys more)
    ∙ (some (ys ++ more)
    ∙ (ap (λ told. numbers_of xs ++ told) (others more)
    ∙ (sym (append_assoc (numbers_of xs) (numbers_of ys) (numbers_of more)) ∙ ap (λ told. told ++ numbers_of more) (sym (some ys)))))

-- numbers behind others have the bytes of both
pub size_behind : (ns ms : List ℕ) → size_of (ns ++ ms) ≡ size_of ns + size_of ms
size_behind ns ms = ap length (flat_map-append bytes_of ns ms) ∙ length-append (flat_map bytes_of ns) (flat_map bytes_of ms)

few_by_kind : (byte : ℕ) (more : List ℕ) (is_both is_alone is_two : Bool) → ((skipped : ℕ) → length (numbers_past skipped more) ≤ 2 * length more) → length (by_kind byte more is_both is_alone is_two) ≤ 2 * suc (length more)
few_by_kind byte more true is_alone is_two few = omega (arith, few 0)
few_by_kind byte more false true is_two few = omega (arith, few 0)
few_by_kind byte more false false true few = omega (arith, few 1)
few_by_kind byte more false false false few = omega (arith, few 4)

few_past : (bytes : List ℕ) (skipped : ℕ) → length (numbers_past skipped bytes) ≤ 2 * length bytes
few_past [] skipped = omega arith
few_past (byte ∷ more) zero = few_by_kind byte more (nat_lt byte ALONE) (nat_lt byte TWO) (nat_lt byte FOUR) (few_past more)
few_past (byte ∷ more) (suc skipped) = omega (arith, few_past more skipped)

-- bytes tell at most twice as many numbers as they are
pub numbers_few : (bytes : List ℕ) → length (numbers_of bytes) ≤ 2 * length bytes
numbers_few bytes = few_past bytes 0

-- ---- numbers put behind others

-- what whole bytes are behind others: they tell the numbers of both, as many, and fit with them
pub record Joined (new old put : List ℕ) (size more count further : ℕ) : Type 0 where
  pub whole : AreWhole new
  pub told : numbers_of new ≡ numbers_of old ++ numbers_of put
  pub fits : size + more ≤ size_of (numbers_of new)
  pub counted : count + further ≡ length (numbers_of new)

pub joined : (new old put : List ℕ) (size more count further : ℕ) → new ≡ old ++ put → AreWhole old → AreWhole put → size ≤ size_of (numbers_of old) → more ≤ size_of (numbers_of put) → count ≡ length (numbers_of old) → further ≡ length (numbers_of put) → Joined new old put size more count further
joined new old put size more count further is some others fits fit counted count_them =
    let told : numbers_of new ≡ numbers_of old ++ numbers_of put = ap numbers_of is ∙ some put in
    record {
      whole = subst AreWhole (sym is) (whole_behind old put some others);
      told = told;
      fits = omega (arith, fits, fit, ap size_of told, size_behind (numbers_of old) (numbers_of put));
      counted = omega (arith, counted, count_them, ap length told, length-append (numbers_of old) (numbers_of put));
    }

-- bytes of which the first so many end with one: it stands last of these, behind the others
pub record LastIs (bytes front : List ℕ) (size byte : ℕ) : Type 0 where
  pub some : 1 ≤ size
  pub front_is : take (size - 1) bytes ≡ front
  pub byte_is : get_or bytes (size - 1) 0 ≡ byte

pub last_is : (bytes front : List ℕ) (size byte : ℕ) → size ≤ length bytes → take size bytes ≡ front ++ byte ∷ [] → LastIs bytes front size byte
last_is bytes front size byte h is =
    let long : size ≡ length front + 1 = omega (arith, length-take-le size bytes h, ap length is, length-append front (byte ∷ [])) in
    let before : size - 1 ≡ length front = omega (arith, long) in
    record {
      some = omega (arith, long);
      front_is = sym (take-take (size - 1) size bytes (omega arith))
          ∙ (ap (take (size - 1)) is ∙ (ap (λ n. take n (front ++ byte ∷ [])) before ∙ take-append_seam front (byte ∷ [])));
      byte_is = sym (get_or-take size bytes (size - 1) 0 (omega (arith, long)))
          ∙ (ap (λ xs. get_or xs (size - 1) 0) is ∙ get_or_at front byte [] 0 (size - 1) (sym before));
    }

-- bytes that end with a small number alone: those before it, and the number
pub record AloneParts (bytes : List ℕ) : Type 0 where
  pub front : List ℕ
  pub number : ℕ
  pub is : bytes ≡ front ++ (ALONE + number) ∷ []
  pub small : number < SMALL
  pub whole : AreWhole front

pub parts_of : (bytes : List ℕ) → EndAlone bytes → AloneParts bytes
parts_of bytes ends =
    let size = length bytes in
    let byte = get_or bytes (size - 1) 0 in
    let size_is : size - 1 + 1 ≡ size = omega (arith, ends.some) in
    let byte_is : byte ≡ ALONE + (byte - ALONE) = omega (arith, ends.alone) in
    record {
      front = take (size - 1) bytes;
      number = byte - ALONE;
      is = sym (take_all size bytes (omega arith))
          ∙ (ap (λ n. take n bytes) (sym size_is)
          ∙ (take_more bytes (size - 1) 0 (omega (arith, ends.some)) ∙ ap (λ b. take (size - 1) bytes ++ b ∷ []) byte_is));
      small = omega (arith, ends.alone, ends.below);
      whole = ends.whole;
    }

pub of_parts : (bytes : List ℕ) → AloneParts bytes → EndAlone bytes
of_parts bytes parts =
    let last = last_is bytes parts.front (length bytes) (ALONE + parts.number) (omega arith) (take_all (length bytes) bytes (omega arith) ∙ parts.is) in
    record {
      some = last.some;
      alone = omega (arith, last.byte_is);
      below = omega (arith, last.byte_is, parts.small);
      whole = subst AreWhole (sym last.front_is) parts.whole;
    }

-- they end so behind others, too
pub alone_behind : (new old put : List ℕ) → new ≡ old ++ put → AreWhole old → EndAlone put → EndAlone new
alone_behind new old put is some ends =
    let parts = parts_of put ends in
    of_parts new (record {
      front = old ++ parts.front;
      number = parts.number;
      is = is ∙ (ap (λ bytes. old ++ bytes) parts.is ∙ sym (append_assoc old parts.front ((ALONE + parts.number) ∷ [])));
      small = parts.small;
      whole = whole_behind old parts.front some parts.whole;
    })

-- bytes put behind the first ones, with whatever stands behind them
pub put_behind : (old put new rest : List ℕ) (size : ℕ) → size ≤ length old → new ≡ put → take (size + length put) (take size old ++ (new ++ rest)) ≡ take size old ++ put
put_behind old put new rest size h is =
    let front = take size old in
    ap (λ bytes. take (size + length put) (front ++ (bytes ++ rest))) is
    ∙ (ap (λ n. take (n + length put) (front ++ (put ++ rest))) (sym (length-take-le size old h))
    ∙ (take-append-add front (put ++ rest) (length put) ∙ ap (λ bytes. front ++ bytes) (take-append_seam put rest)))

-- the same where more were put than are meant
pub few_behind : (old other new rest : List ℕ) (size few most : ℕ) → size ≤ length old → new ≡ take most other → few ≤ most → most ≤ length other → take (size + few) (take size old ++ (new ++ rest)) ≡ take size old ++ take few other
few_behind old other new rest size few most h is less long =
    let front = take size old in
    ap (λ bytes. take (size + few) (front ++ (bytes ++ rest))) is
    ∙ (ap (λ n. take (n + few) (front ++ (take most other ++ rest))) (sym (length-take-le size old h))
    ∙ (take-append-add front (take most other ++ rest) few
    ∙ ap (λ bytes. front ++ bytes) (take-append-le few (take most other) rest (omega (arith, less, length-take-le most other long)) ∙ take-take few most other less)))

-- one number more has no more bytes than all have
one_more_fits : (numbers : List ℕ) (i default : ℕ) → i < length numbers → size_of (take i numbers) + size_of (get_or numbers i default ∷ []) ≤ size_of numbers
one_more_fits [] i default within = absurd (omega (arith, within))
one_more_fits (number ∷ more) zero default within = omega (arith, size_behind (number ∷ []) more)
one_more_fits (number ∷ more) (suc i) default within =
    omega (
      arith,
      size_behind (number ∷ []) (take i more),
      size_behind (number ∷ []) more,
      one_more_fits more i default (omega (arith, within)),
    )

-- also behind others
pub beginning_fits : (before numbers : List ℕ) (i default : ℕ) → i < length numbers → size_of ((before ++ take i numbers) ++ get_or numbers i default ∷ []) ≤ size_of (before ++ numbers)
beginning_fits before numbers i default within =
    let first = take i numbers in
    let next = get_or numbers i default ∷ [] in
    omega (arith, size_behind before numbers, size_behind (before ++ first) next, size_behind before first, one_more_fits numbers i default within)

-- ---- a small number that joins the last one

-- what the bytes tell once another small number shares the last one
pub record IsShared (new old : List ℕ) (number count : ℕ) : Type 0 where
  pub whole : AreWhole new
  pub told : numbers_of new ≡ numbers_of old ++ number ∷ []
  pub fits : size_of (numbers_of old) ≤ size_of (numbers_of new)
  pub counted : count + 1 ≡ length (numbers_of new)

pub shared : (new old front : List ℕ) (first number count : ℕ) → old ≡ front ++ (ALONE + first) ∷ [] → new ≡ front ++ both_of first number ∷ [] → AreWhole front → first < SMALL → number < SMALL → count ≡ length (numbers_of old) → IsShared new old number count
shared new old front first number count before is whole h k counted =
    let both : (more : List ℕ) → numbers_of (both_of first number ∷ more) ≡ first ∷ number ∷ numbers_of more = λ more. both_told first number more h k in
    let one = alone first h in
    let had : numbers_of old ≡ numbers_of front ++ first ∷ [] = ap numbers_of before ∙ (whole ((ALONE + first) ∷ []) ∙ ap (λ told. numbers_of front ++ told) one.told) in
    let has : numbers_of new ≡ numbers_of front ++ first ∷ number ∷ [] = ap numbers_of is ∙ (whole (both_of first number ∷ []) ∙ ap (λ told. numbers_of front ++ told) (both [])) in
    let told : numbers_of new ≡ numbers_of old ++ number ∷ [] =
    has ∙ (sym (append_assoc (numbers_of front) (first ∷ []) (number ∷ [])) ∙ ap (λ told. told ++ number ∷ []) (sym had)) in
    record {
      whole = subst AreWhole (sym is) (whole_behind front (both_of first number ∷ []) whole (λ more. both more ∙ ap (λ told. told ++ numbers_of more) (sym (both []))));
      told = told;
      fits = omega (arith, ap size_of told, size_behind (numbers_of old) (number ∷ []));
      counted = omega (arith, counted, ap length told, length-append (numbers_of old) (number ∷ []));
    }
