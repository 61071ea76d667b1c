-- Of general use: a test with what it says, a function changed at a point, sums.
use Rattle.std.specs.Prelude.{Bool, true, ◌&&◌, cond, ℕ, zero, suc, ◌+◌, eqb}

-- the function f, but v at k
unfoldable pub upd {ℓ} : {A : Type ℓ} → (ℕ → A) → ℕ → A → ℕ → A
upd f k v n = cond (eqb n k) v (f n)

-- the same over two indices
unfoldable pub upd2 {ℓ} : {A : Type ℓ} → (ℕ → ℕ → A) → ℕ → ℕ → A → ℕ → ℕ → A
upd2 f k j v = upd f k (upd (f k) j v)

-- f 0 + .. + f (n - 1)
unfoldable pub sum : ℕ → (ℕ → ℕ) → ℕ
sum zero f = 0
sum (suc n) f = sum n f + f n

-- a test at every number below n
unfoldable pub all : ℕ → (ℕ → Bool) → Bool
all zero b = true
all (suc n) b = all n b && b n
