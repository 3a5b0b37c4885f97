-- Believe: which bases of addresses are in their range, and the test of one.
use Rattle.std.specs.Prelude.{◌≡◌, ℕ, Bool, not, ◌==◌, ◌&&◌, List, [], drop}
use Rattle.std.specs.List.{list_all}
use Rattle.ba_message.specs.Addresses.{IsDialable}
use Rattle.ba_message.specs.Dialing.{is_dialable}

-- an address that can be dialed, and has no path
pub record IsBase (base : List ℕ) : Type 0 where
  pub dialable : IsDialable base
  pub pathless : dialable.path ≡ []

-- the same as a test: there is no slash after the scheme
unfoldable pub is_base : List ℕ → Bool
is_base bytes = is_dialable bytes && list_all (λ b. not (b == 0x2F)) (drop 7 bytes)
