-- The canonical form of a stack file: what is written for steps. This project's own.
use Rattle.std.specs.Prelude.{ℕ, Bool, true, ◌==◌, if◌then◌else◌, List, [], ◌∷◌, ◌++◌, length, map, Option, Some, None, codes, decimal}
use Rattle.std.specs.List.{flat_map}
use Rattle.builder_core.specs.Plan.{Plan, Item, Done, Then, Uses, Ends, Holds, EndsAny}
use Rattle.rack_text.specs.Escaped.{escaped}
use Rattle.stock_apps.specs.declared.app.App.{App}
use Rattle.stock_apps.specs.declared.app.App.TheVariants.{Text, Echo, Env, Pieces, Stream, Cookies, Bad, Raise, Late, Take, Part}
use Rattle.stock_middleware.specs.declared.ware.Ware.{Ware}
use Rattle.stock_middleware.specs.declared.ware.Ware.TheVariants.{Head, ContentLength, ContentType, MethodOverride, SetHeader, Lint}
use Rattle.stack_file.specs.Said.{last_byte}

-- words behind others, a space before each
abbrev pub spaced : List (List ℕ) → List ℕ
spaced words = flat_map (λ word. 32 ∷ word) words

-- a line: the spaces at its front, a first word and more of them, and LF
abbrev pub line : List ℕ → List ℕ → List (List ℕ) → List ℕ
line margin verb words = margin ++ (verb ++ (spaced words ++ 10 ∷ []))

-- texts as arguments
abbrev pub arguments : List (List ℕ) → List (List ℕ)
arguments texts = map escaped texts

-- a middleware: its name and its arguments
abbrev pub ware_words : Ware → List (List ℕ)
ware_words Head = codes "head" ∷ []
ware_words ContentLength = codes "content_length" ∷ []
ware_words (ContentType kind) = codes "content_type" ∷ escaped kind ∷ []
ware_words MethodOverride = codes "method_override" ∷ []
ware_words (SetHeader name value) = codes "set_header" ∷ escaped name ∷ escaped value ∷ []
ware_words Lint = codes "lint" ∷ []

-- what marks a body that raises
abbrev pub mark : Bool → List (List ℕ)
mark raises = if raises then codes "!" ∷ [] else []

-- the name of a stock hijacker: upper's, or else echo's
abbrev pub hijacker_name : Bool → List ℕ
hijacker_name upper = if upper then codes "upper" else codes "echo"

-- an endpoint: its name and its arguments, numbers without zeros in front
abbrev pub app_words : App → List (List ℕ)
app_words (Text status kind body) = codes "text" ∷ decimal status ∷ escaped kind ∷ escaped body ∷ []
app_words Echo = codes "echo" ∷ []
app_words Env = codes "env" ∷ []
app_words (Pieces status pieces) = codes "pieces" ∷ decimal status ∷ arguments pieces
app_words (Stream pieces) = codes "stream" ∷ arguments pieces
app_words (Cookies values) = codes "cookies" ∷ arguments values
app_words (Bad numbers) = codes "bad" ∷ map decimal numbers
app_words (Raise text) = codes "raise" ∷ escaped text ∷ []
app_words (Late length pieces raises) = codes "late" ∷ decimal length ∷ (arguments pieces ++ mark raises)
app_words (Take upper) = codes "take" ∷ hijacker_name upper ∷ []
app_words (Part status upper) = codes "part" ∷ decimal status ∷ hijacker_name upper ∷ []

-- there is no last byte, or it is `/`
abbrev pub wants_slash : Option ℕ → Bool
wants_slash None = true
wants_slash (Some b) = b == 47

-- a place: with one `/` more at its end where it is empty or ends with `/`
abbrev pub place_text : List ℕ → List ℕ
place_text place = if wants_slash (last_byte place) then place ++ 47 ∷ [] else place

abbrev pub run_lines : List App → List ℕ → List ℕ
run_lines [] margin = []
run_lines (app ∷ apps) margin = line margin (codes "run") (app_words app) ++ run_lines apps margin

-- what stands in a block stands two spaces further in
abbrev pub deeper : List ℕ → List ℕ
deeper margin = margin ++ codes "  "

abbrev mutual
  -- a line, with all that stands in its block
  pub item_text : Item App → List ℕ → List ℕ
  item_text (Uses ware) = λ margin. line margin (codes "use") (ware_words ware)
  item_text (Ends app) = λ margin. line margin (codes "run") (app_words app)
  item_text (Holds place block) = λ margin.
      line margin (codes "map") (escaped (place_text place) ∷ []) ++ (plan_text block (deeper margin) ++ line margin (codes "end") [])
  item_text (EndsAny apps) = λ margin.
      line margin (codes "cascade") [] ++ (run_lines apps (deeper margin) ++ line margin (codes "end") [])

  -- the lines of a block
  pub plan_text : Plan App → List ℕ → List ℕ
  plan_text Done = λ margin. []
  plan_text (Then i p) = λ margin. item_text i margin ++ plan_text p margin

-- the canonical form
abbrev pub canonical : Plan App → List ℕ
canonical p = plan_text p []
