-- Inside: UTF-8, byte by byte.
use Rattle.std.specs.Prelude.{ℕ, cond, ◌==◌, nat_lt}
use Rattle.ba_xml_words.specs.declared.faults.Reason.TheVariants.{NotUtf8, Syntax}
use Rattle.ba_xml_words.specs.declared.octets.Octet.{Octet}
use Rattle.ba_xml_words.specs.declared.octets.Octet.TheVariants.{Between, One, Two, Three, AfterE0, AfterED, AfterEF, AfterEFBF, AfterF0}
use Rattle.ba_xml_words.specs.declared.octets.Octet.TheVariants.{AfterF4}
use Rattle.ba_xml_words.specs.declared.octets.Decoding.{Decoding}
use Rattle.ba_xml_words.specs.declared.octets.Decoding.TheVariants.{At, Broken}

abbrev pub followed : ℕ → ℕ → ℕ → Octet → Decoding
followed b least most octet = cond (nat_lt b least) (Broken NotUtf8) (cond (nat_lt most b) (Broken NotUtf8) (At octet))

abbrev pub third_last : ℕ → Decoding
third_last b = cond (b == 0xBF) (At AfterEFBF) (followed b 0x80 0xBE One)

-- U+FFFE and U+FFFF
abbrev pub last : ℕ → Decoding
last b = cond (b == 0xBE) (Broken Syntax) (cond (b == 0xBF) (Broken Syntax) (followed b 0x80 0xBD Between))

abbrev pub lead_of_three : ℕ → Octet
lead_of_three b = cond (b == 0xE0) AfterE0 (cond (b == 0xED) AfterED (cond (b == 0xEF) AfterEF Two))

abbrev pub lead_of_four : ℕ → Decoding
lead_of_four b = cond (b == 0xF0) (At AfterF0) (cond (nat_lt b 0xF4) (At Three) (cond (b == 0xF4) (At AfterF4) (Broken NotUtf8)))

unfoldable pub lead : ℕ → Decoding
lead b = cond (nat_lt b 0x80) (At Between) (cond (nat_lt b 0xC2) (Broken NotUtf8) (cond (nat_lt b 0xE0) (At One)
    (cond (nat_lt b 0xF0) (At (lead_of_three b)) (lead_of_four b))))

-- where the characters stand after this byte
unfoldable pub octet_after : Octet → ℕ → Decoding
octet_after Between b = lead b
octet_after One b = followed b 0x80 0xBF Between
octet_after Two b = followed b 0x80 0xBF One
octet_after Three b = followed b 0x80 0xBF Two
octet_after AfterE0 b = followed b 0xA0 0xBF One
octet_after AfterED b = followed b 0x80 0x9F One
octet_after AfterEF b = third_last b
octet_after AfterEFBF b = last b
octet_after AfterF0 b = followed b 0x90 0xBF Two
octet_after AfterF4 b = followed b 0x80 0x8F Two
