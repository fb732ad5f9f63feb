-- What follows of a command from what its parts did.
use Rattle.std.proofs.Common.{◌≡◌, ℕ, ◌+◌, ◌<◌, ◌≤◌, ◌⊎◌, inl, inr, Bool, List, [], ◌∷◌, ◌++◌, length, Option, None, Some, Ok, Err, ap, sym, ◌∙◌, refl, subst, arith, length-append}
use Rattle.std.proofs.lemmas.List.{append_cancel_left}
use Rattle.rack_outside.specs.declared.files.FileRead.{FileRead}
use Rattle.rack_outside.specs.declared.files.FileRead.TheVariants as read
use Rattle.rack_outside.specs.Told.{Rose, appended}
use Rattle.rack_outside.specs.Files.{Shelf, Answers, AnswersFrom}
use Rattle.rack_outside.specs.Source.{IsPrefix}
use Rattle.stock_apps.specs.declared.app.App.{App}
use Rattle.builder_core.specs.Plan.{Plan}
use Rattle.builder_core.specs.Tree.{Tree}
use Rattle.puma_words.specs.Words.{Command, once, check}
use Rattle.stack_file.specs.Reads.{IsStack, IsBadAt}
use Rattle.stack_file.specs.Canon.{canonical}
use Rattle.puma_top.specs.Stack.{stack_limit}
use Rattle.puma_top.specs.Seen.{FileReads, FilesSeen, SinkSeen, Seen}
use Rattle.puma_top.specs.OnceSteps.{Serves}
use Rattle.puma_top.specs.Status.{UnlessNoMemory}
use Rattle.puma_top.specs.Quiet.{ReadOnce, NotRead, IsBadStack, IsGoodStack, HasRead, OnceDid, CheckDid, Did, file_of, IsReady, NoFault, Ran}
use Rattle.puma_top.specs.QuietSteps.{OpensSteps, Prints}
use Rattle.puma_top.specs.declared.status.FileWhy.{FileWhy}
use Rattle.puma_top.specs.declared.status.FileWhy.TheVariants as why
use Rattle.puma_top.specs.declared.status.Status.{Status}
use Rattle.puma_top.specs.declared.status.Status.TheVariants as status
use Rattle.puma_top.proofs.StackLemmas.{reads_no_rule, one_rule}

-- a connection that was served by a stack
pub once_served : (s : Status) (hijack : Bool) (name : List ℕ) (stack : Tree App) (old new : Seen) → IsGoodStack name stack old.files new.files
    → Serves s (record { stack = stack; hijack = hijack }) old.source old.sink new.source new.sink → OnceDid s hijack name old new
once_served status.Done hijack name stack old new good h = record { stack = stack; good = good; served = h }
once_served status.NoMemory hijack name stack old new good (inl h) = inl h
once_served status.NoMemory hijack name stack old new good (inr h) = inr (record { stack = stack; good = good; served = h })
once_served status.Usage hijack name stack old new good h = absurd h
once_served (status.File y) hijack name stack old new good h = absurd h
once_served (status.Stack line rule) hijack name stack old new good h = absurd h
once_served status.SourceFault hijack name stack old new good h = record { stack = stack; good = good; rose = h.0; served = h.1 }
once_served status.SinkFault hijack name stack old new good h = record { stack = stack; good = good; rose = h.0; served = h.1 }
once_served status.TooLong hijack name stack old new good h = record { stack = stack; good = good; served = h }
once_served status.Dial hijack name stack old new good h = absurd h
once_served status.NoAnswer hijack name stack old new good h = absurd h
once_served (status.Denied denied) hijack name stack old new good h = absurd h

-- one that was not begun
pub once_unbegun : (s : Status) (hijack : Bool) (name : List ℕ) (old new : Seen) → OpensSteps (Err s) name old.files new.files
    → new.sink.written ≡ old.sink.written → OnceDid s hijack name old new
once_unbegun status.Done hijack name old new h same = absurd h
once_unbegun status.NoMemory hijack name old new h same = inl same
once_unbegun status.Usage hijack name old new h same = absurd h
once_unbegun (status.File y) hijack name old new h same = h
once_unbegun (status.Stack line rule) hijack name old new h same = h
once_unbegun status.SourceFault hijack name old new h same = absurd h
once_unbegun status.SinkFault hijack name old new h same = absurd h
once_unbegun status.TooLong hijack name old new h same = absurd h
once_unbegun status.Dial hijack name old new h same = absurd h
once_unbegun status.NoAnswer hijack name old new h same = absurd h
once_unbegun (status.Denied denied) hijack name old new h same = absurd h

-- steps that were read and printed
pub check_printed : (s : Status) (name : List ℕ) (steps : Plan App) (old new : FilesSeen) (sink then : SinkSeen) → HasRead name steps old new
    → Prints s (canonical steps) sink then → CheckDid s name old new sink then
check_printed status.Done name steps old new sink then h p = record { steps = steps; read = h; printed = p }
check_printed status.NoMemory name steps old new sink then h p =
    inr (record { steps = steps; read = h; front = p.front; more = p.more; begins = p.begins; printed = p.wrote })
check_printed status.Usage name steps old new sink then h p = absurd p
check_printed (status.File y) name steps old new sink then h p = absurd p
check_printed (status.Stack line rule) name steps old new sink then h p = absurd p
check_printed status.SourceFault name steps old new sink then h p = absurd p
check_printed status.SinkFault name steps old new sink then h p = (
  p.0,
  record {
    part = record { steps = steps; read = h; front = p.1.0.front; more = p.1.0.more; begins = p.1.0.begins; printed = p.1.0.wrote };
    less = p.1.1;
  },
)
check_printed status.TooLong name steps old new sink then h p = absurd p
check_printed status.Dial name steps old new sink then h p = absurd p
check_printed status.NoAnswer name steps old new sink then h p = absurd p
check_printed (status.Denied denied) name steps old new sink then h p = absurd p

-- and those that weren't read
pub check_unread : (s : Status) (name : List ℕ) (old new : FilesSeen) (sink then : SinkSeen) → OpensSteps (Err s) name old new
    → then.written ≡ sink.written → CheckDid s name old new sink then
check_unread status.Done name old new sink then h same = absurd h
check_unread status.NoMemory name old new sink then h same = inl same
check_unread status.Usage name old new sink then h same = absurd h
check_unread (status.File y) name old new sink then h same = h
check_unread (status.Stack line rule) name old new sink then h same = h
check_unread status.SourceFault name old new sink then h same = absurd h
check_unread status.SinkFault name old new sink then h same = absurd h
check_unread status.TooLong name old new sink then h same = absurd h
check_unread status.Dial name old new sink then h same = absurd h
check_unread status.NoAnswer name old new sink then h same = absurd h
check_unread (status.Denied denied) name old new sink then h same = absurd h

-- the last read that was noted, told twice
one_note : (noted notes : Option FileReads) (before : FileReads) (x y : List ℕ × FileRead) → noted ≡ Some before → notes ≡ appended noted (x ∷ [])
    → notes ≡ Some (before ++ (y ∷ [])) → x ≡ y
one_note noted notes before x y old adds new =
    let both : Some (before ++ (x ∷ [])) ≡ Some (before ++ (y ∷ [])) = sym (adds ∙ ap (λ (n : Option FileReads). appended n (x ∷ [])) old) ∙ new in
    let lists : before ++ (x ∷ []) ≡ before ++ (y ∷ []) = cc in
    let ends : x ∷ [] ≡ y ∷ [] = append_cancel_left before (x ∷ []) (y ∷ []) lists in
    cc

same_text : (t u : List ℕ) → read.Text t ≡ read.Text u → t ≡ u
same_text t u same = cc

-- the files' last note is of this text
pub record Noted (old new : FilesSeen) (name text : List ℕ) : Type 0 where
  pub before : FileReads
  pub was : old.texts ≡ Some before
  pub is : new.texts ≡ Some (before ++ ((name, read.Text text) ∷ []))

-- the answer that was noted is the one that the command's file gave
noted_answer : (file : List ℕ) (answer : FileRead) (old new : FilesSeen) (name text : List ℕ) → ReadOnce file answer old new
    → Noted old new name text → answer ≡ read.Text text
noted_answer file answer old new name text was noted =
    ap (λ (p : List ℕ × FileRead). p.1) (one_note old.texts new.texts noted.before (file, answer) (name, read.Text text) noted.was was.noting noted.is)

noted_text : (file read_text : List ℕ) (old new : FilesSeen) (name text : List ℕ) → ReadOnce file (read.Text read_text) old new
    → Noted old new name text → read_text ≡ text
noted_text file read_text old new name text was noted = same_text read_text text (noted_answer file (read.Text read_text) old new name text was noted)

module _ (old new : FilesSeen) (name text : List ℕ) (line rule : ℕ) (noted : Noted old new name text) (bad : IsBadAt text line rule) where
  no_steps : (file : List ℕ) (steps : Plan App) → HasRead file steps old new → ⊥
  no_steps file steps h =
      reads_no_rule text steps line rule
      (subst (λ (t : List ℕ). IsStack t steps) (noted_text file h.text old new name text h.was noted) h.reads) bad

  no_stack : (file : List ℕ) (stack : Tree App) → IsGoodStack file stack old new → ⊥
  no_stack file stack h = no_steps file h.good.steps (record { text = h.text; was = h.was; reads = h.good.reads })

  by_rule : (file : List ℕ) (l r : ℕ) → IsBadStack file l r old new → status.Stack l r ≡ status.Stack line rule
  by_rule file l r h =
      let other : IsBadAt text l r = subst (λ (t : List ℕ). IsBadAt t l r) (noted_text file h.text old new name text h.was noted) h.bad in
      let same = one_rule text l r line rule other bad in
      ap (λ n. status.Stack n r) same.0 ∙ ap (λ n. status.Stack line n) same.1

  not_read : (file : List ℕ) (w : FileWhy) → NotRead w file old new → ⊥
  not_read file why.Absent h = let clash : read.Absent ≡ read.Text text = noted_answer file read.Absent old new name text h noted in cc
  not_read file why.Long h = let clash : read.Long ≡ read.Text text = noted_answer file read.Long old new name text h noted in cc
  not_read file why.Failed h = let clash : read.Failed ≡ read.Text text = noted_answer file read.Failed old new name text h.0 noted in cc

nothing_noted : (old new : FilesSeen) (name text : List ℕ) → new.texts ≡ old.texts → Noted old new name text → ⊥
nothing_noted old new name text same noted =
    let both : Some noted.before ≡ Some (noted.before ++ ((name, read.Text text) ∷ [])) = sym noted.was ∙ sym same ∙ noted.is in
    let lists : noted.before ≡ noted.before ++ ((name, read.Text text) ∷ []) = cc in
    let size : length noted.before ≡ length noted.before + 1 = ap length lists ∙ length-append noted.before ((name, read.Text text) ∷ []) in
    omega (arith, size)

-- a text that breaks a rule is answered by it
once_bad : (s : Status) (hijack : Bool) (file : List ℕ) (old new : Seen) → OnceDid s hijack file old new → (name text : List ℕ) (line rule : ℕ)
    → Noted old.files new.files name text → IsBadAt text line rule → UnlessNoMemory s (s ≡ status.Stack line rule)
once_bad status.Done hijack file old new did name text line rule noted bad =
    absurd (no_stack old.files new.files name text line rule noted bad file did.stack did.good)
once_bad status.NoMemory hijack file old new did name text line rule noted bad = tt
once_bad status.Usage hijack file old new did name text line rule noted bad = absurd did
once_bad (status.File y) hijack file old new did name text line rule noted bad =
    absurd (not_read old.files new.files name text line rule noted bad file y did)
once_bad (status.Stack l r) hijack file old new did name text line rule noted bad =
    by_rule old.files new.files name text line rule noted bad file l r did
once_bad status.SourceFault hijack file old new did name text line rule noted bad =
    absurd (no_stack old.files new.files name text line rule noted bad file did.stack did.good)
once_bad status.SinkFault hijack file old new did name text line rule noted bad =
    absurd (no_stack old.files new.files name text line rule noted bad file did.stack did.good)
once_bad status.TooLong hijack file old new did name text line rule noted bad =
    absurd (no_stack old.files new.files name text line rule noted bad file did.stack did.good)
once_bad status.Dial hijack file old new did name text line rule noted bad = absurd did
once_bad status.NoAnswer hijack file old new did name text line rule noted bad = absurd did
once_bad (status.Denied denied) hijack file old new did name text line rule noted bad = absurd did

check_bad : (s : Status) (file : List ℕ) (old new : FilesSeen) (sink then : SinkSeen) → CheckDid s file old new sink then → (name text : List ℕ) (line rule : ℕ)
    → Noted old new name text → IsBadAt text line rule → UnlessNoMemory s (s ≡ status.Stack line rule)
check_bad status.Done file old new sink then did name text line rule noted bad =
    absurd (no_steps old new name text line rule noted bad file did.steps did.read)
check_bad status.NoMemory file old new sink then did name text line rule noted bad = tt
check_bad status.Usage file old new sink then did name text line rule noted bad = absurd did
check_bad (status.File y) file old new sink then did name text line rule noted bad = absurd (not_read old new name text line rule noted bad file y did)
check_bad (status.Stack l r) file old new sink then did name text line rule noted bad = by_rule old new name text line rule noted bad file l r did
check_bad status.SourceFault file old new sink then did name text line rule noted bad = absurd did
check_bad status.SinkFault file old new sink then did name text line rule noted bad =
    absurd (no_steps old new name text line rule noted bad file did.1.part.steps did.1.part.read)
check_bad status.TooLong file old new sink then did name text line rule noted bad = absurd did
check_bad status.Dial file old new sink then did name text line rule noted bad = absurd did
check_bad status.NoAnswer file old new sink then did name text line rule noted bad = absurd did
check_bad (status.Denied denied) file old new sink then did name text line rule noted bad = absurd did

bad_stack : (s : Status) (command : Option Command) (old new : Seen) → Did s command old new → (command ≡ None → new.files.texts ≡ old.files.texts)
    → (name text : List ℕ) (line rule : ℕ) → Noted old.files new.files name text → IsBadAt text line rule → UnlessNoMemory s (s ≡ status.Stack line rule)
bad_stack s None old new did same name text line rule noted bad =
    absurd (nothing_noted old.files new.files name text (same refl) noted)
bad_stack s (Some (once hijack file)) old new did same name text line rule noted bad =
    once_bad s hijack file old new did name text line rule noted bad
bad_stack s (Some (check file)) old new did same name text line rule noted bad =
    check_bad s file old.files new.files old.sink new.sink did.0 name text line rule noted bad

-- the answer of the file comes of its next text
next_answer : (file : List ℕ) (answer : FileRead) (old new : FilesSeen) (ready : IsReady file old) → ReadOnce file answer old new
    → AnswersFrom answer stack_limit (ready.text ∷ ready.more)
next_answer file answer old new ready was =
    let told : Answers (Ok answer) file stack_limit (Some ready.shelf) new.holds =
    subst (λ (h : Option Shelf). Answers (Ok answer) file stack_limit h new.holds) ready.tells was.answers in
    subst (λ (t : List (List ℕ)). AnswersFrom answer stack_limit t) ready.next told.0

first_of : (t u : List ℕ) (ts us : List (List ℕ)) → t ∷ ts ≡ u ∷ us → t ≡ u
first_of t u ts us same = cc

module _ (file : List ℕ) (old new : FilesSeen) (ready : IsReady file old) where
  is_read : (w : FileWhy) → NotRead w file old new → ¬ (Rose old.faults new.faults) → ⊥
  is_read why.Absent h calm =
      let none : ready.text ∷ ready.more ≡ [] = next_answer file read.Absent old new ready h in
      cc
  is_read why.Long h calm =
      let long = next_answer file read.Long old new ready h in
      let same : ready.text ≡ long.0 = first_of ready.text long.0 ready.more long.1 long.2 in
      let fits : length ready.text ≤ stack_limit = ready.fits in
      let above : stack_limit < length long.0 = long.3 in
      omega (arith, ap length same, fits, above)
  is_read why.Failed h calm = calm h.1

  is_good : (line rule : ℕ) → IsBadStack file line rule old new → ⊥
  is_good line rule h =
      let text = next_answer file (read.Text h.text) old new ready h.was in
      let same : ready.text ≡ h.text = first_of ready.text h.text ready.more text.1 text.2 in
      ready.good line rule (subst (λ (t : List ℕ). IsBadAt t line rule) (sym same) h.bad)

-- with good words and a good stack the command is done, unless a count of faults rose or too many bytes came
once_complete : (s : Status) (hijack : Bool) (file : List ℕ) (old new : Seen) → OnceDid s hijack file old new → IsReady file old.files → NoFault old new
    → UnlessNoMemory s ((s ≡ status.Done) ⊎ (s ≡ status.TooLong))
once_complete status.Done hijack file old new did ready calm = inl refl
once_complete status.NoMemory hijack file old new did ready calm = tt
once_complete status.Usage hijack file old new did ready calm = absurd did
once_complete (status.File y) hijack file old new did ready calm = absurd (is_read file old.files new.files ready y did calm.files)
once_complete (status.Stack line rule) hijack file old new did ready calm = absurd (is_good file old.files new.files ready line rule did)
once_complete status.SourceFault hijack file old new did ready calm = absurd (calm.source did.rose)
once_complete status.SinkFault hijack file old new did ready calm = absurd (calm.sink did.rose)
once_complete status.TooLong hijack file old new did ready calm = inr refl
once_complete status.Dial hijack file old new did ready calm = absurd did
once_complete status.NoAnswer hijack file old new did ready calm = absurd did
once_complete (status.Denied denied) hijack file old new did ready calm = absurd did

check_complete : (s : Status) (file : List ℕ) (old new : Seen) → CheckDid s file old.files new.files old.sink new.sink → IsReady file old.files → NoFault old new
    → UnlessNoMemory s ((s ≡ status.Done) ⊎ (s ≡ status.TooLong))
check_complete status.Done file old new did ready calm = inl refl
check_complete status.NoMemory file old new did ready calm = tt
check_complete status.Usage file old new did ready calm = absurd did
check_complete (status.File y) file old new did ready calm = absurd (is_read file old.files new.files ready y did calm.files)
check_complete (status.Stack line rule) file old new did ready calm = absurd (is_good file old.files new.files ready line rule did)
check_complete status.SourceFault file old new did ready calm = absurd did
check_complete status.SinkFault file old new did ready calm = absurd (calm.sink did.0)
check_complete status.TooLong file old new did ready calm = inr refl
check_complete status.Dial file old new did ready calm = absurd did
check_complete status.NoAnswer file old new did ready calm = absurd did
check_complete (status.Denied denied) file old new did ready calm = absurd did

complete : (s : Status) (command : Option Command) (old new : Seen) → Did s command old new → (which : Command) → command ≡ Some which
    → IsReady (file_of which) old.files → NoFault old new → UnlessNoMemory s ((s ≡ status.Done) ⊎ (s ≡ status.TooLong))
complete s command old new did (once hijack file) is ready calm =
    once_complete s hijack file old new (subst (λ (c : Option Command). Did s c old new) is did) ready calm
complete s command old new did (check file) is ready calm =
    check_complete s file old new (subst (λ (c : Option Command). Did s c old new) is did).0 ready calm

-- a command that did this ran so
pub ran : (s : Status) (command : Option Command) (old new : Seen) → Did s command old new → (command ≡ None → new.files.texts ≡ old.files.texts)
    → new.source.input ≡ old.source.input
    → (IsPrefix old.source.given old.source.input → IsPrefix new.source.given new.source.input)
    → Ran command s old new
ran s command old new did untouched same prefix = record {
  did = did;
  bad_stack = λ name text line rule before was is bad.
      bad_stack s command old new did untouched name text line rule (record { before = before; was = was; is = is }) bad;
  complete = complete s command old new did;
  same = same;
  prefix = prefix;
}
