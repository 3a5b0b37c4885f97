-- Believe: the bytes of a request and of a response.
use Rattle.std.specs.Prelude.{ℕ, List, [], ◌∷◌, ◌++◌, ◌==◌, length, take, drop, codes, decimal, unwrap_or, position}
use Rattle.http.specs.StatusCode.{reason_phrase}
use Rattle.ba_http_writer.specs.declared.bodies.Body.{Body}
use Rattle.ba_http_writer.specs.declared.bodies.Body.TheVariants.{Nothing, Xml, Plain}

-- CR LF
abbrev pub end_of_line : List ℕ
end_of_line = 13 ∷ 10 ∷ []

-- what ends a head: its last line, and an empty one
abbrev pub last_lines : List ℕ
last_lines = end_of_line ++ codes "Connection: close" ++ end_of_line ++ end_of_line

-- the line that says what the body is
abbrev pub type_line : Body → List ℕ
type_line Nothing = []
type_line Xml = codes "Content-Type: text/xml; charset=utf-8" ++ end_of_line
type_line Plain = codes "Content-Type: text/plain" ++ end_of_line

abbrev pub response_text : ℕ → Body → List ℕ → List ℕ
response_text code kind body =
    codes "HTTP/1.1 " ++ decimal code ++ codes " " ++ unwrap_or (reason_phrase code) [] ++ end_of_line
    ++ type_line kind
    ++ codes "Content-Length: " ++ decimal (length body)
    ++ last_lines
    ++ body

-- how many bytes stand before the first slash
abbrev pub authority_len : List ℕ → ℕ
authority_len address = unwrap_or (position (λ byte. byte == 47) address) (length address)

-- a path, or a slash where there is none
abbrev pub target_of : List ℕ → List ℕ
target_of [] = codes "/"
target_of (byte ∷ path) = byte ∷ path

-- a body with an action is an envelope
abbrev pub body_kind : List ℕ → Body
body_kind [] = Plain
body_kind (byte ∷ action) = Xml

-- the line that says an action, between quotation marks
abbrev pub quoted_action : List ℕ → List ℕ
quoted_action action = codes "SOAPAction: " ++ (34 ∷ []) ++ action ++ (34 ∷ end_of_line)

-- that line, if there is an action
abbrev pub action_line : List ℕ → List ℕ
action_line [] = []
action_line (byte ∷ action) = quoted_action (byte ∷ action)

-- what ends a request's first line, and begins the line after it
abbrev pub host_line : List ℕ
host_line = codes " HTTP/1.1" ++ end_of_line ++ codes "Host: "

-- to the address whose bytes after `http://` these are
abbrev pub text_to : List ℕ → List ℕ → List ℕ → List ℕ
text_to address action body =
    codes "POST " ++ target_of (drop (authority_len address) address)
    ++ host_line ++ take (authority_len address) address ++ end_of_line
    ++ type_line (body_kind action)
    ++ action_line action
    ++ codes "Content-Length: " ++ decimal (length body)
    ++ last_lines
    ++ body

abbrev pub request_text : List ℕ → List ℕ → List ℕ → List ℕ
request_text address action body = text_to (drop 7 address) action body
