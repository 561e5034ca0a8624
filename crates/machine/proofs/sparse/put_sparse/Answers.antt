use Rattle.std.proofs.Common.{◌≡◌, ◌+◌, ◌*◌, ◌^◌, ◌<◌, ◌≤◌, ◌++◌, [], ◌∷◌, append_assoc, get_or, length, take, ap, sym, subst, ◌∙◌, arith, pow_mono}
use Rattle.std.proofs.lemmas.Grind.{pow_more}
use Rattle.std.proofs.lemmas.Option.{IfSome_then}
use Rattle.std.proofs.lemmas.List.{length-set, length-take-le, take_all, take_more_set}
use Rattle.told.specs.Bytes.{size_of}
use Rattle.told.specs.Numbers.{numbers_in}
use Rattle.told.specs.declared.numbers.TheConstants.{MOST_BYTES}
use Rattle.machine.specs.Sparse.{mask_of, sparse}
use Rattle.machine.proofs.SparseValues.{filled-past-other, filled-past-zero, filled-past-zeros, mask-past-other, mask-past-zero, mask-past-zeros, mask_small, pow_four}
use Rattle.machine.proofs.sparse.put_sparse.Goals as goal
use Rattle.machine.proofs.sparse.put_sparse.Goals.{then-values-i-ne0, else-values-i-ne0}

pub loop-i-preserved-then-are_zero : goal.loop-i-preserved-then-are_zero
loop-i-preserved-then-are_zero c =
    let i = c.loop-i.i in
    let told = c.loop-i.invariant in
    let four = c.are_zero.ensures c.if-are_zero.true in
    record {
      short = four.long;
      bit = ap (λ n. n * 16) told.bit ∙ sym (pow_four i);
      mask = told.mask ∙ sym (mask-past-zeros c.args.values.now i four);
      room = told.room;
      few = omega (arith, told.few);
      others = told.others ∙ sym (filled-past-zeros c.args.values.now i four);
    }

pub overflow_add-mask : goal.overflow_add-mask
overflow_add-mask c =
    let values = c.args.values.now in
    let i = c.loop-i.i in
    let short = length-take-le i values (omega (arith, c.loop-i-test.true)) in
    let small : mask_of (take i values) < 4294967296 = mask_small 32 (take i values) (omega (arith, short, c.loop-i-test.true, c.requires)) in
    let power : 2 ^ i ≤ 4294967296 = pow_mono {i = i} {j = 32} (omega (arith, c.loop-i-test.true, c.requires)) in
    omega (arith, small, power, c.loop-i.invariant.bit, c.loop-i.invariant.mask)

pub loop-i-preserved : goal.loop-i-preserved
loop-i-preserved c =
    let values = c.args.values.now in
    let i = c.loop-i.i in
    let count = c.loop-i.count in
    let others = c.loop-i.others in
    let told = c.loop-i.invariant in
    let there : i < length values = c.loop-i-test.true in
    let next : c.loop-i.bit * 2 ≡ 2 ^ (i + 1) = ap (λ n. n * 2) told.bit ∙ sym (pow_more 2 i) in
    elim c.if-values-i-ne0.branch [
      | then-values-i-ne0 w ↦
          let filled_is = filled-past-other values i there (λ h. omega (arith, h, w.if-values-i-ne0.true)) in
          record {
            short = omega (arith, there);
            bit = next;
            mask = w.mask-is ∙ (ap (λ m. m + c.loop-i.bit) told.mask
                ∙ (ap (λ b. mask_of (take i values) + b) told.bit
                ∙ sym (mask-past-other values i there (λ h. omega (arith, h, w.if-values-i-ne0.true)))));
            room = ap length w.others-is ∙ (length-set others count (get_or values i 0) ∙ told.room);
            few = omega (arith, w.count-is, told.few);
            others = ap (λ n. take n c.if-values-i-ne0.others) w.count-is ∙ (ap (take (count + 1)) w.others-is
                ∙ (take_more_set others count (get_or values i 0) (omega (arith, told.room, told.few, there, c.requires))
                ∙ (ap (λ ns. ns ++ get_or values i 0 ∷ []) told.others ∙ sym filled_is)));
          }
      | else-values-i-ne0 w ↦ record {
        short = omega (arith, there);
        bit = next;
        mask = w.mask-is ∙ (told.mask ∙ sym (mask-past-zero values i there w.if-values-i-ne0.false));
        room = ap length w.others-is ∙ told.room;
        few = omega (arith, w.count-is, told.few);
        others = ap (λ n. take n c.if-values-i-ne0.others) w.count-is ∙ (ap (take count) w.others-is
            ∙ (told.others ∙ sym (filled-past-zero values i there w.if-values-i-ne0.false)));
      }
    ]

pub overflow_cast-mask : goal.overflow_cast-mask
overflow_cast-mask c =
    let values = c.args.values.now in
    let i = c.loop-i.i in
    let whole : take i values ≡ values = take_all i values (omega (arith, c.loop-i-test.false)) in
    let small : mask_of values < 4294967296 = mask_small 32 values (omega (arith, c.requires)) in
    omega (arith, small, ap mask_of whole, c.loop-i.invariant.mask)

-- the mask and the others are what the values are told by
told_sparse : (c : goal.After-put_all) → numbers_in c.put.new.self ++ take c.loop-i.count c.loop-i.others ≡ numbers_in c.args.numbers.now ++ sparse c.args.values.now
told_sparse c =
    let values = c.args.values.now in
    let told = c.loop-i.invariant in
    let whole : take c.loop-i.i values ≡ values = take_all c.loop-i.i values (omega (arith, c.loop-i-test.false)) in
    let others = take c.loop-i.count c.loop-i.others in
    let both : c.loop-i.mask ∷ others ≡ sparse values = ap (λ m. m ∷ others) told.mask ∙ (ap (λ ns. mask_of (take c.loop-i.i values) ∷ ns) told.others ∙ ap sparse whole) in
    ap (λ ns. ns ++ others) c.in_ok-put.ensures.behind
    ∙ (append_assoc (numbers_in c.args.numbers.now) (c.loop-i.mask ∷ []) others ∙ ap (λ ns. numbers_in c.args.numbers.now ++ ns) both)

pub returns-clause-behind : goal.returns-clause-behind
returns-clause-behind c = IfSome_then c.put_all.result c.put_all.ensures.behind (λ _ is. is ∙ told_sparse c)

pub returns-clause-room : goal.returns-clause-room
returns-clause-room c fits = c.put_all.ensures.room (subst (λ ns. size_of ns ≤ MOST_BYTES) (sym (told_sparse c)) fits)
