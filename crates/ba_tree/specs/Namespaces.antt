-- Believe: the namespaces that messages use, by the names that definitions give them.
use Rattle.std.specs.Prelude.{ℕ, List}
use Rattle.ba_tree.specs.declared.namespaces.TheConstants as uri

-- of an envelope (SOAP 1.1, section 3): http://schemas.xmlsoap.org/soap/envelope/
abbrev pub soap_space : List ℕ
soap_space = uri.SOAP_SPACE.now

-- of endpoint references and addressing headers (WS-Addressing 1.0 Core, section 1.2):
-- http://www.w3.org/2005/08/addressing
abbrev pub wsa_space : List ℕ
wsa_space = uri.WSA_SPACE.now

-- of contexts and registration (WS-Coordination 1.2, section 1.3): http://docs.oasis-open.org/ws-tx/wscoor/2006/06
abbrev pub wscoor_space : List ℕ
wscoor_space = uri.WSCOOR_SPACE.now

-- of the notices of business activities (WS-BusinessActivity 1.2, section 1.3):
-- http://docs.oasis-open.org/ws-tx/wsba/2006/06
abbrev pub wsba_space : List ℕ
wsba_space = uri.WSBA_SPACE.now

-- of what this project adds to messages: urn:ba:profile:1
abbrev pub own_space : List ℕ
own_space = uri.OWN_SPACE.now

-- of the prefix xml, which has it of itself (Namespaces in XML 1.0, section 3): http://www.w3.org/XML/1998/namespace
abbrev pub xml_space : List ℕ
xml_space = uri.XML_SPACE.now
