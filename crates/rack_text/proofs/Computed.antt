-- The definitions at some values: those of RFC 9110, section 5.6.1, and others.
use Rattle.std.proofs.Common.{◌≡◌, ◌-◌, ◌^◌, true, false, [], ◌∷◌, Some, None, codes, refl}
use Rattle.std.specs.Fmt.{digits}
use Rattle.httparse.specs.Grammar.{is_token, is_token_byte, trim_ows}
use Rattle.rack_text.specs.Case.{lowered, same_ignoring_case}
use Rattle.rack_text.specs.Decimal.{is_decimal, decimal_number}
use Rattle.rack_text.specs.Escaped.{escaped, spelled, spelling, unescaped}
use Rattle.rack_text.specs.Host.{is_name_byte, is_address_byte, host_parts, is_valid_host}
use Rattle.rack_text.specs.Lists.{elements, list_has}

numbers : (decimal_number (codes "0") ≡ Some 0) × (decimal_number (codes "00042") ≡ Some 42) × (decimal_number [] ≡ None) × (decimal_number (codes "+1") ≡ None)
    × (decimal_number (codes "-1") ≡ None) × (decimal_number (codes "1 ") ≡ None)
    × (decimal_number (codes "340282366920938463463374607431768211455") ≡ Some (2 ^ 128 - 1))
    × (decimal_number (codes "340282366920938463463374607431768211456") ≡ None)
    × (decimal_number (codes "00000000000000000000000000000000000000000000007") ≡ Some 7)
numbers = (refl, refl, refl, refl, refl, refl, refl, refl, refl)

tokens : (is_token (codes "foo-bar!#$%&'*+.^_`|~09AZ") ≡ true) × (is_token [] ≡ false) × (is_token (codes "a b") ≡ false) × (is_token (codes "a,b") ≡ false)
unfolding is_token_byte
tokens = (refl, refl, refl, refl)

words : (lowered (codes "Keep-ALIVE@[`{") ≡ codes "keep-alive@[`{") × (same_ignoring_case (codes "CLOSE") (codes "close") ≡ true)
    × (same_ignoring_case (codes "close") (codes "closed") ≡ false)
words = (refl, refl, refl)

lists : (elements (codes "foo,bar") ≡ codes "foo" ∷ codes "bar" ∷ []) × (elements (codes "foo ,bar,") ≡ codes "foo" ∷ codes "bar" ∷ [])
    × (elements (codes "foo , ,bar,charlie") ≡ codes "foo" ∷ codes "bar" ∷ codes "charlie" ∷ []) × (elements [] ≡ [])
    × (elements (codes ",") ≡ []) × (elements (codes ",   ,") ≡ []) × (elements (codes " a b ") ≡ codes "a b" ∷ [])
unfolding elements trim_ows
lists = (refl, refl, refl, refl, refl, refl, refl)

members : (list_has (codes "keep-alive, Close") (codes "cLOSE") ≡ true) × (list_has (codes "keep-alive, closed") (codes "close") ≡ false) × (list_has (codes ", ,") [] ≡ false)
unfolding elements trim_ows
members = (refl, refl, refl)

decimals : (is_decimal (codes "007") ≡ true) × (is_decimal [] ≡ false) × (is_decimal (codes "0x7") ≡ false) × (is_decimal (codes "-7") ≡ false)
decimals = (refl, refl, refl, refl)

hosts : (host_parts [] ≡ Some ([], None)) × (host_parts (codes "example.org") ≡ Some (codes "example.org", None))
    × (host_parts (codes "h:080") ≡ Some (codes "h", Some 80)) × (host_parts (codes "h:") ≡ Some (codes "h", None))
    × (host_parts (codes "h:65535") ≡ Some (codes "h", Some 65_535)) × (host_parts (codes "[::1]:80") ≡ Some (codes "[::1]", Some 80))
    × (host_parts (codes "[1.2.3.aF]") ≡ Some (codes "[1.2.3.aF]", None)) × (host_parts (codes "-._~!$&'()*+,;=%:0") ≡ Some (codes "-._~!$&'()*+,;=%", Some 0))
unfolding host_parts is_name_byte is_address_byte
hosts = (refl, refl, refl, refl, refl, refl, refl, refl)

no_hosts : (is_valid_host (codes "h:65536") ≡ false) × (is_valid_host (codes "[]") ≡ false) × (is_valid_host (codes ":80") ≡ false) × (is_valid_host (codes "a:b") ≡ false)
    × (is_valid_host (codes "[::1]x") ≡ false) × (is_valid_host (codes "h:+1") ≡ false) × (is_valid_host (codes "[::1") ≡ false) × (is_valid_host (codes "h:1:2") ≡ false)
    × (is_valid_host (codes "a@b") ≡ false) × (is_valid_host (codes "a b") ≡ false) × (is_valid_host (codes "::1") ≡ false) × (is_valid_host (codes "[g]") ≡ false)
unfolding host_parts is_name_byte is_address_byte
no_hosts = (refl, refl, refl, refl, refl, refl, refl, refl, refl, refl, refl, refl)

read_texts : (unescaped (codes "\\e") ≡ Some []) × (unescaped (codes "!~") ≡ Some (codes "!~")) × (unescaped (codes "a\\s\\\\") ≡ Some (codes "a \\"))
    × (unescaped (codes "\\n\\r") ≡ Some (10 ∷ 13 ∷ [])) × (unescaped (codes "\\x00\\xfF") ≡ Some (0 ∷ 255 ∷ []))
unfolding spelled
read_texts = (refl, refl, refl, refl, refl)

not_escaped : (unescaped [] ≡ None) × (unescaped (codes " ") ≡ None) × (unescaped (127 ∷ []) ≡ None) × (unescaped (codes "\\") ≡ None) × (unescaped (codes "\\t") ≡ None)
    × (unescaped (codes "\\ea") ≡ None) × (unescaped (codes "a\\e") ≡ None) × (unescaped (codes "\\x4") ≡ None) × (unescaped (codes "\\xg0") ≡ None)
unfolding spelled
not_escaped = (refl, refl, refl, refl, refl, refl, refl, refl, refl)

sizes : (digits 16 false 0 ≡ codes "0") × (digits 16 false 65_536 ≡ codes "10000") × (digits 16 false 1_048_575 ≡ codes "fffff")
unfolding digits
sizes = (refl, refl, refl)

written_texts : (escaped [] ≡ codes "\\e") × (escaped (codes "!~09Az[]") ≡ codes "!~09Az[]") × (escaped (codes "1, 2") ≡ codes "1,\\s2") × (escaped (codes "\\e") ≡ codes "\\\\e")
    × (escaped (10 ∷ 13 ∷ 92 ∷ []) ≡ codes "\\n\\r\\\\") × (escaped (0 ∷ 9 ∷ 31 ∷ []) ≡ codes "\\x00\\x09\\x1f")
    × (escaped (127 ∷ 128 ∷ 255 ∷ []) ≡ codes "\\x7f\\x80\\xff")
unfolding escaped spelling
written_texts = (refl, refl, refl, refl, refl, refl, refl)
