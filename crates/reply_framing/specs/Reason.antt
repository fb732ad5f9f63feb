-- The reasons behind the status codes (RFC 9110, section 15; 429 and 431: RFC 6585, sections 4 and 5).
use Rattle.std.specs.Prelude.{ℕ, ◌==◌, if◌then◌else◌, List, [], ◌∷◌, codes}

-- the text beside the number in a table, empty where the number isn't there
abbrev pub text_of : ℕ → List (ℕ × List ℕ) → List ℕ
text_of number [] = []
text_of number (row ∷ rows) = if number == row.0 then row.1 else text_of number rows

abbrev pub reasons : List (ℕ × List ℕ)
reasons =
    (100, codes "Continue") ∷ (101, codes "Switching Protocols")
    ∷ (200, codes "OK") ∷ (201, codes "Created") ∷ (202, codes "Accepted") ∷ (204, codes "No Content") ∷ (206, codes "Partial Content")
    ∷ (301, codes "Moved Permanently") ∷ (302, codes "Found") ∷ (303, codes "See Other") ∷ (304, codes "Not Modified")
    ∷ (307, codes "Temporary Redirect") ∷ (308, codes "Permanent Redirect")
    ∷ (400, codes "Bad Request") ∷ (401, codes "Unauthorized") ∷ (403, codes "Forbidden") ∷ (404, codes "Not Found")
    ∷ (405, codes "Method Not Allowed") ∷ (408, codes "Request Timeout") ∷ (409, codes "Conflict") ∷ (410, codes "Gone")
    ∷ (413, codes "Content Too Large") ∷ (415, codes "Unsupported Media Type") ∷ (422, codes "Unprocessable Content")
    ∷ (429, codes "Too Many Requests") ∷ (431, codes "Request Header Fields Too Large")
    ∷ (500, codes "Internal Server Error") ∷ (501, codes "Not Implemented") ∷ (503, codes "Service Unavailable") ∷ []

-- the reason behind a status, empty for a status that has none here
unfoldable pub reason : ℕ → List ℕ
reason status = text_of status reasons
