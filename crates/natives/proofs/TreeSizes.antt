-- Sizes of trees.
use Rattle.std.proofs.Common.{◌≡◌, ℕ, zero, suc, ◌+◌, ◌-◌, ◌*◌, ◌^◌, ◌<◌, ◌≤◌, ap, ◌∙◌, arith, subst, mul-le-mul}
use Rattle.std.proofs.Math.Nat.{pow-suc}

-- a tree of a level more
double : (levels k : ℕ) → levels ≡ suc k → 2 ^ levels ≡ 2 ^ k * 2
double levels k e = ap (λ n. 2 ^ n) e ∙ pow-suc 2 k

pub power_some : (levels : ℕ) → 1 ≤ 2 ^ levels
power_some zero = omega arith
power_some (suc levels) = let e = pow-suc 2 levels in let h = power_some levels in omega arith

-- the root has its levels below it
pub root_within : (depth last : ℕ) → 1 ≤ depth → last ≡ 2 ^ depth - 1 → (1 + 1) * 2 ^ (depth - 1) ≤ last + 1
root_within depth last some e =
    let d = double depth (depth - 1) (omega arith) in
    let h = power_some depth in
    omega arith

-- a vertex below has one level less below it
pub below_within : (next vertex levels last : ℕ) → 0 < levels → next ≤ vertex * 2 + 1 → (vertex + 1) * 2 ^ levels ≤ last + 1 → (next + 1) * 2 ^ (levels - 1) ≤ last + 1
below_within next vertex levels last some below h =
    let d = double levels (levels - 1) (omega arith) in
    let step : (next + 1) * 2 ^ (levels - 1) ≤ (vertex * 2 + 2) * 2 ^ (levels - 1) = mul-le-mul (omega arith) (omega arith) in
    let whole : (vertex + 1) * (2 ^ (levels - 1) * 2) ≤ last + 1 = subst (λ p. (vertex + 1) * p ≤ last + 1) d h in
    omega arith

-- a vertex with its levels below it is one of the tree's
pub within_last : (vertex levels last : ℕ) → (vertex + 1) * 2 ^ levels ≤ last + 1 → vertex ≤ last
within_last vertex levels last h =
    let p = power_some levels in
    let step : (vertex + 1) * 1 ≤ (vertex + 1) * 2 ^ levels = mul-le-mul (omega arith) p in
    omega arith
