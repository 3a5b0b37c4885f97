-- Believe: which addresses can be dialed: http URIs (RFC 3986, section 3; RFC 9110, section 4.2.1) of a host name
-- or an IPv4 address.
use Rattle.std.specs.Prelude.{ℕ, Bool, false, not, ◌≤◌, ◌≡◌, ◌&&◌, ◌||◌, ◌⊎◌, List, [], ◌∷◌, ◌++◌, length, IsTrue, ◌==◌, nat_le, codes}
use Rattle.std.specs.List.{list_all}
use Rattle.std.specs.Str.Parse.{digits_value}
use Rattle.ba_message.specs.declared.addresses.TheConstants.{GREATEST_PORT, MOST_ADDRESS_BYTES, MOST_HOST_BYTES}
use Rattle.ba_tree.specs.Characters.{is_within}
use Rattle.ba_tree.specs.Names.{is_letter, is_digit}

-- a letter, a digit, `.` or `-`
abbrev pub is_host_byte : ℕ → Bool
is_host_byte b = (is_letter b || is_digit b) || (b == 0x2E || b == 0x2D)

-- visible ASCII other than `#`
abbrev pub is_path_byte : ℕ → Bool
is_path_byte b = is_within 0x21 0x7E b && not (b == 0x23)

abbrev pub IsHost : List ℕ → Type 0
IsHost host = IsTrue (list_all is_host_byte host) × (1 ≤ length host) × (length host ≤ MOST_HOST_BYTES)

-- the digits of a number from 1 to 65535, without a leading zero
abbrev pub is_port_number : List ℕ → Bool
is_port_number [] = false
is_port_number (d ∷ ds) = (is_within 0x31 0x39 d && list_all is_digit ds) && nat_le (digits_value 10 (d ∷ ds)) GREATEST_PORT

-- nothing, or a colon and such a number
abbrev pub IsPort : List ℕ → Type 0
IsPort port = (port ≡ []) ⊎ ((number : List ℕ) × IsTrue (is_port_number number) × (port ≡ codes ":" ++ number))

-- nothing, or a slash and what may follow it
abbrev pub IsPath : List ℕ → Type 0
IsPath path = (path ≡ []) ⊎ ((rest : List ℕ) × IsTrue (list_all is_path_byte rest) × (path ≡ codes "/" ++ rest))

pub record IsDialable (address : List ℕ) : Type 0 where
  pub host : List ℕ
  pub port : List ℕ
  pub path : List ℕ
  pub spelled : address ≡ codes "http://" ++ (host ++ (port ++ path))
  pub is_host : IsHost host
  pub is_port : IsPort port
  pub is_path : IsPath path
  pub short : length address ≤ MOST_ADDRESS_BYTES
