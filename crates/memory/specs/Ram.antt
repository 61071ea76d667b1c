-- Document 01, section 1: RAM is "n frames of 4,096 bytes, 16 <= n <= 65,536, from physical address b, a multiple of 4,096 with
-- b + 4,096 n <= 2^48". The limits stand here once, and so does the test; crates above cite them.
use Rattle.std.specs.Prelude.{ℕ, ◌+◌, ◌*◌, ◌^◌, ◌%◌, Bool, ◌&&◌, eqb, leb}

abbrev pub frame_bytes : ℕ
frame_bytes = 4096

abbrev pub fewest_frames : ℕ
fewest_frames = 16

abbrev pub most_frames : ℕ
most_frames = 65536

-- addresses end here, physical, guest-physical and virtual ones
abbrev pub address_end : ℕ
address_end = 2 ^ 48

unfoldable pub ram_fits : (base frames : ℕ) → Bool
ram_fits base frames =
    leb fewest_frames frames && (leb frames most_frames
    && (eqb (base % frame_bytes) 0 && leb (base + frame_bytes * frames) address_end))
