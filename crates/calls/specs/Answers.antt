-- What the desk prints for a line: what the rule of the call makes of its arguments, or what is wrong with the line. `^` stands for the separator,
-- going in and coming out.
use Rattle.std.specs.Prelude.{Option, Some, None, ℕ, cond, List, [], ◌∷◌, ◌++◌, length, take, drop, replicate, leb, Err, Result, Ok}
use Rattle.laws.specs.Text.{as_bytes}
use Rattle.refusal.specs.Outcome.{Outcome, made, refused}
use Rattle.refusal.specs.Fills.{answered, answer_of}
use Rattle.text.specs.Decimal.{apart, record_text}
use Rattle.text.specs.Typed.{message_of}
use Rattle.text.specs.Widths.{Said, widths, nothing, widths_in}
use Rattle.digits.specs.Check.{check_digit}
use Rattle.symbols.specs.declared.Kind.{Kind}
use Rattle.symbols.specs.declared.Kind.TheVariants.{Ean13, Ean8, UpcE, Itf14, Gs1128}
use Rattle.symbols.specs.Kinds.{reads_as, writes_as}
use Rattle.symbols.specs.Readings.{reads}
use Rattle.elements.specs.declared.Element.{Element}
use Rattle.elements.specs.Strings.{tested}
use Rattle.splitting.specs.declared.Record.{Record}
use Rattle.splitting.specs.Splitting.{splits}
use Rattle.asking.specs.Asking.{asked, part_of}
use Rattle.adding.specs.Adding.{adds}
use Rattle.answers.specs.declared.Form.TheVariants.{Widths as AsWidths, Bytes as AsBytes}
use Rattle.answers.specs.Lines.{answer_line, counted_line, list_line}
use Rattle.requests.specs.declared.Fault.{Fault}
use Rattle.requests.specs.declared.Argument.TheVariants.{Message, Data, Widths}
use Rattle.requests.specs.declared.Fault.TheVariants.{Missing, Malformed}
use Rattle.requests.specs.declared.Request.{Request}
use Rattle.requests.specs.declared.Request.TheVariants.{Call, Help}
use Rattle.requests.specs.declared.Word.{Word}
use Rattle.requests.specs.declared.Word.TheVariants.{Digit, Draw, Read, Test, Split, Ask, Add}
use Rattle.requests.specs.Requests.{request_of, leading_of, follows, word_at}
use Rattle.requests.specs.Texts.{help_line, fault_line}

abbrev pub kind_name : Kind → List ℕ
kind_name Ean13 = as_bytes " ean13 "
kind_name Ean8 = as_bytes " ean8 "
kind_name UpcE = as_bytes " upce "
kind_name Itf14 = as_bytes " itf14 "
kind_name Gs1128 = as_bytes " gs1 "

-- a reading that names its kind
abbrev pub named_line : Outcome (Kind × List ℕ) → List ℕ
named_line (made read) = counted_line AsBytes (kind_name read.0) read.1
named_line (refused f) = answer_line (Err f)

abbrev pub read_line : Option Kind → List ℕ → ℕ → List ℕ
read_line (Some kind) list places = list_line AsBytes (reads_as kind list places)
read_line None list places = named_line (reads list places)

abbrev pub read_typed : Option Kind → Said → ℕ → List ℕ
read_typed kind (widths list) places = read_line kind list places
read_typed kind nothing places = fault_line (Malformed Widths)

-- the records of a message, each after a space
abbrev pub record_texts : List Record → List ℕ
record_texts [] = []
record_texts (r ∷ records) = record_text r.identifier r.begin r.length ++ record_texts records

abbrev pub records_line : List Record → List ℕ
records_line records = apart 0 (length records) ++ record_texts records ++ (10 ∷ [])

abbrev pub split_line : Outcome (List Record) → List ℕ
split_line (made records) = records_line records
split_line (refused f) = answer_line (Err f)

-- the data that a message has been asked for
abbrev pub data_of : List ℕ → Outcome Element → Outcome (List ℕ)
data_of message (made string) = made (part_of message (made string))
data_of message (refused f) = refused f

abbrev pub asked_line : List ℕ → ℕ → List ℕ
asked_line message identifier = list_line AsBytes (data_of message (asked message identifier))

abbrev pub asked_by : List ℕ → Result (ℕ × ℕ) Fault → List ℕ
asked_by typed (Ok (identifier, from)) = asked_line (drop from typed) identifier
asked_by typed (Err fault) = fault_line fault

abbrev pub ask_typed : List ℕ → List ℕ
ask_typed typed = asked_by typed (leading_of typed Message)

-- the buffer that is lent for adding to a message: as much of the message as fits
abbrev pub buffer_of : ℕ → List ℕ → List ℕ
buffer_of places message = take places (message ++ replicate places 0)

abbrev pub added_line : ℕ → ℕ → List ℕ → List ℕ → List ℕ
added_line places identifier content message = list_line AsBytes (adds (buffer_of places message) (length message) identifier content)

-- data, up to a space, and then the message
abbrev pub add_after : ℕ → ℕ → List ℕ → List ℕ
add_after places identifier typed =
    follows typed 0 (fault_line (Missing Message)) (λ from. added_line places identifier (word_at typed 0) (drop from typed))

abbrev pub added_by : ℕ → List ℕ → Result (ℕ × ℕ) Fault → List ℕ
added_by places typed (Ok (identifier, from)) = add_after places identifier (drop from typed)
added_by places typed (Err fault) = fault_line fault

abbrev pub add_typed : ℕ → List ℕ → List ℕ
add_typed places typed = added_by places typed (leading_of typed Data)

-- the answer of each call that is lent so many places, by what is typed after its word
abbrev pub called : Word → ℕ → List ℕ → List ℕ
called Digit places typed = answer_line (answered (check_digit typed))
called (Draw kind) places typed = list_line AsWidths (writes_as kind typed places)
called (Read kind) places typed = read_typed kind (widths_in typed) places
called Test places typed = answer_line (answer_of (tested typed))
called Split places typed = split_line (splits typed places)
called Ask places typed = ask_typed typed
called Add places typed = add_typed places typed

abbrev pub answer_for : List ℕ → Result Request Fault → List ℕ
answer_for line (Ok (Call word places from)) = called word places (drop from line)
answer_for line (Ok Help) = help_line
answer_for line (Err fault) = fault_line fault

abbrev pub answer_by : List ℕ → List ℕ
answer_by line = answer_for line (request_of line)

-- a line's bytes, without its byte 10, and the bytes of its answer
unfoldable pub answer_to : List ℕ → List ℕ
answer_to line = cond (leb (length line) 4096) (answer_by (message_of line)) (as_bytes "error: a line has at most 4096 bytes" ++ (10 ∷ []))
