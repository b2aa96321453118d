-- The decay of a sum: what is left of it after a number of periods, by a table of the powers of the
-- 32nd root of a half. Half is left after 32 periods, and nothing after more than 2,016.
-- Cited by the contract of `decay`; also by `lb_journal_rows` and `lb_rows`.
use Rattle.std.specs.Prelude.{ℕ, ◌*◌, ◌/◌, ◌%◌, ◌^◌, if◌then◌else◌, nat_lt, List, [], ◌∷◌, slice_index}

-- 2 ^ 32 times the n-th power of the 32nd root of a half; the literals are the rule
unfoldable pub inverses : List ℕ
inverses =
    0xffffffff ∷ 0xfa83b2da ∷ 0xf5257d14 ∷ 0xefe4b99a ∷ 0xeac0c6e6 ∷ 0xe5b906e6 ∷ 0xe0ccdeeb ∷ 0xdbfbb796
    ∷ 0xd744fcc9 ∷ 0xd2a81d91 ∷ 0xce248c14 ∷ 0xc9b9bd85 ∷ 0xc5672a10 ∷ 0xc12c4cc9 ∷ 0xbd08a39e ∷ 0xb8fbaf46
    ∷ 0xb504f333 ∷ 0xb123f581 ∷ 0xad583ee9 ∷ 0xa9a15ab4 ∷ 0xa5fed6a9 ∷ 0xa2704302 ∷ 0x9ef5325f ∷ 0x9b8d39b9
    ∷ 0x9837f050 ∷ 0x94f4efa8 ∷ 0x91c3d373 ∷ 0x8ea4398a ∷ 0x8b95c1e3 ∷ 0x88980e80 ∷ 0x85aac367 ∷ 0x82cd8698 ∷ []

unfoldable pub inverse_at : ℕ → ℕ
inverse_at k = slice_index inverses k

-- what is left of v after n periods
unfoldable pub decayed : ℕ → ℕ → ℕ
decayed v n = if nat_lt 2016 n then 0 else v / 2 ^ (n / 32) * inverse_at (n % 32) / 2 ^ 32
