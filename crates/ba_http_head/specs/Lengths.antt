-- Believe: how the fields of a head say where the body ends.
use Rattle.std.specs.Prelude.{ℕ, Bool, ◌&&◌, ◌==◌, nat_lt, nat_le, bytes_eq, if◌then◌else◌, List, [], ◌∷◌, length, map, codes, Option, Some}
use Rattle.std.specs.Prelude.{None, Result, Ok, Err}
use Rattle.std.specs.List.{filter, list_all}
use Rattle.std.specs.Str.{str_eq_ignore_ascii_case, all_ascii_digits}
use Rattle.std.specs.Str.Parse.{digits_value}
use Rattle.ba_http_head.specs.declared.faults.HttpFault.{HttpFault}
use Rattle.ba_http_head.specs.declared.faults.HttpFault.TheVariants.{Length as NoLength, TooLarge}
use Rattle.ba_http_head.specs.declared.lengths.Length.{Length}
use Rattle.ba_http_head.specs.declared.lengths.Length.TheVariants.{Counted, Chunked}
use Rattle.ba_http_head.specs.declared.lengths.TheConstants.{MOST_BODY}

-- the values of the fields of this name, in their order; the case of letters doesn't count
abbrev pub values_of : List ℕ → List (List ℕ × List ℕ) → List (List ℕ)
values_of name fields =
    map (λ (field : List ℕ × List ℕ). field.1)
    (filter (λ (field : List ℕ × List ℕ). str_eq_ignore_ascii_case field.0 name) fields)

abbrev pub is_chunked : List ℕ → Bool
is_chunked value = str_eq_ignore_ascii_case value (codes "chunked")

-- one or more decimal digits
abbrev pub is_digits : List ℕ → Bool
is_digits value = nat_lt 0 (length value) && all_ascii_digits value

-- the digits from the first that isn't 0
abbrev pub significant : List ℕ → List ℕ
significant [] = []
significant (digit ∷ digits) = if digit == 48 then significant digits else digit ∷ digits

-- two texts of digits write the same number
abbrev pub is_same_number : List ℕ → List ℕ → Bool
is_same_number a b = bytes_eq (significant a) (significant b)

-- a number, and the same as the first
abbrev pub is_length : List ℕ → List ℕ → Bool
is_length first value = is_digits value && is_same_number first value

-- the first of them
abbrev pub first_of : List (List ℕ) → Option (List ℕ)
first_of [] = None
first_of (first ∷ others) = Some first

-- a body of so many bytes, which may be too many
abbrev pub counted_length : ℕ → Result (Option Length) HttpFault
counted_length n = if nat_le n MOST_BODY then Ok (Some (Counted n)) else Err TooLarge

-- by the values of Content-Length and of Transfer-Encoding; None where there is neither field
abbrev pub length_by : List (List ℕ) → List (List ℕ) → Result (Option Length) HttpFault
length_by [] [] = Ok None
length_by (first ∷ others) [] =
    if list_all (is_length first) (first ∷ others) then counted_length (digits_value 10 first) else Err NoLength
length_by [] (first ∷ others) = if list_all is_chunked (first ∷ others) then Ok (Some Chunked) else Err NoLength
length_by (length ∷ lengths) (coding ∷ codings) = Err NoLength

abbrev pub length_of : List (List ℕ × List ℕ) → Result (Option Length) HttpFault
length_of fields = length_by (values_of (codes "content-length") fields) (values_of (codes "transfer-encoding") fields)

-- a request has to say a length; the body of a reply without one goes on to the end of the input
abbrev pub needed_length : Result (Option Length) HttpFault → Result (Option Length) HttpFault
needed_length (Ok None) = Err NoLength
needed_length (Ok (Some length)) = Ok (Some length)
needed_length (Err fault) = Err fault
