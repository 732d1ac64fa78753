-- A reply of a tool, and what becomes of it.
use Rattle.std.specs.Prelude.{◌≡◌, ℕ, ◌<◌, ◌≤◌, List, ◌++◌, length, take, Option}
use Rattle.std.specs.Io.KnownBytes.{Appends}

-- what a tool prints, and the status that it then answers, where nothing fails
pub record Reply : Type 0 where
  pub status : ℕ
  pub text : List ℕ

-- a text before a reply
abbrev pub with_text : List ℕ → Reply → Reply
with_text text reply = record reply { text = text ++ reply.text }

-- the whole reply was printed, and its status answered
pub record IsGiven (reply : Reply) (status : ℕ) (before now : Option (List ℕ)) : Type 0 where
  pub status_is : status ≡ reply.status
  pub printed : Appends before now reply.text

-- a prefix of the reply was printed, which may be nothing or all of it
pub record IsPrefix (reply : Reply) (before now : Option (List ℕ)) : Type 0 where
  pub count : ℕ
  pub within : count ≤ length reply.text
  pub printed : Appends before now (take count reply.text)

-- printing stopped in the midst of the reply: a prefix of it was printed, and nothing else
pub record IsCutShort (reply : Reply) (before now : Option (List ℕ)) : Type 0 where
  pub count : ℕ
  pub within : count < length reply.text
  pub printed : Appends before now (take count reply.text)
