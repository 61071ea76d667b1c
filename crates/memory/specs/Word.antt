-- Document 01, section 1: RAM is a slice of bytes, and a descriptor is the 64-bit number of eight of them, "lowest byte first".
-- Callers cite the laws of proofs/Laws and open no definition.
use Rattle.std.specs.Prelude.{ℕ, zero, suc, ◌+◌, ◌*◌, ◌/◌, ◌%◌, ◌^◌, List, get_or, set}

-- the number whose lowest byte is at `at`
unfoldable pub word_at : List ℕ → ℕ → ℕ
word_at m at =
    get_or m at 0 + 256 * (get_or m (at + 1) 0 + 256 * (get_or m (at + 2) 0 + 256 * (get_or m (at + 3) 0
    + 256 * (get_or m (at + 4) 0 + 256 * (get_or m (at + 5) 0 + 256 * (get_or m (at + 6) 0 + 256 * get_or m (at + 7) 0))))))

-- m with the eight bytes of v from `at` on
unfoldable pub stored_at : List ℕ → ℕ → ℕ → List ℕ
stored_at m at v =
    let m0 = set m at (v % 256) in
    let m1 = set m0 (at + 1) (v / 2 ^ 8 % 256) in
    let m2 = set m1 (at + 2) (v / 2 ^ 16 % 256) in
    let m3 = set m2 (at + 3) (v / 2 ^ 24 % 256) in
    let m4 = set m3 (at + 4) (v / 2 ^ 32 % 256) in
    let m5 = set m4 (at + 5) (v / 2 ^ 40 % 256) in
    let m6 = set m5 (at + 6) (v / 2 ^ 48 % 256) in
    set m6 (at + 7) (v / 2 ^ 56 % 256)

-- m with n zeros from `at` on
unfoldable pub cleared_at : List ℕ → ℕ → ℕ → List ℕ
cleared_at m at zero = m
cleared_at m at (suc k) = set (cleared_at m at k) (at + k) 0
