-- Believe: the test of an address that can be dialed, which reads it from its beginning to its end: each part is as
-- long as its bytes allow. A law says that it is true of the addresses that can be dialed alone.
use Rattle.std.specs.Prelude.{ℕ, Bool, true, false, ◌&&◌, List, [], ◌∷◌, length, nat_le, ◌==◌, bytes_eq, codes, take, drop}
use Rattle.std.specs.List.{list_all, prefix_len}
use Rattle.ba_message.specs.Addresses.{is_host_byte, is_path_byte, is_port_number}
use Rattle.ba_message.specs.declared.addresses.TheConstants.{MOST_ADDRESS_BYTES, MOST_HOST_BYTES}
use Rattle.ba_tree.specs.Names.{is_digit}

-- a path, or the end
abbrev pub takes_path : List ℕ → Bool
takes_path [] = true
takes_path (b ∷ rest) = b == 0x2F && list_all is_path_byte rest

-- the digits at the beginning are a port, and a path follows
abbrev pub takes_number : List ℕ → Bool
takes_number bytes = is_port_number (take (prefix_len is_digit bytes) bytes) && takes_path (drop (prefix_len is_digit bytes) bytes)

-- a colon and a port, or none, and a path
abbrev pub takes_port : List ℕ → Bool
takes_port [] = true
takes_port (b ∷ rest) = elim (b == 0x3A) [ true ↦ takes_number rest | false ↦ takes_path (b ∷ rest) ]

-- a host, and what may follow one
abbrev pub takes_host : List ℕ → Bool
takes_host bytes = (nat_le 1 (prefix_len is_host_byte bytes) && nat_le (prefix_len is_host_byte bytes) MOST_HOST_BYTES)
    && takes_port (drop (prefix_len is_host_byte bytes) bytes)

-- the scheme, and a host and what may follow one
unfoldable pub is_dialable : List ℕ → Bool
is_dialable address =
    bytes_eq (take 7 address) (codes "http://") && (nat_le (length address) MOST_ADDRESS_BYTES && takes_host (drop 7 address))
