-- Sessions: how a connection is served from its opening to its end.
use Rattle.std.specs.Prelude.{◌≡◌, ◌⊎◌, ℕ, ◌-◌, ◌^◌, min, true, false, List, [], ◌∷◌, ◌++◌, Option, Some, None}
use Rattle.std.specs.List.{AllByRecursion, flat_map}
use Rattle.nt_topics.specs.declared.version.Version.{Version}
use Rattle.nt_rules.specs.declared.act.Act.TheVariants.{Open, Close}
use Rattle.nt_rules.specs.declared.act.StepOut.{StepOut}
use Rattle.nt_rules.specs.declared.act.StepOut.TheVariants.{Opened}
use Rattle.nt_rules.specs.declared.act.Deed.TheVariants.{NotOpened as not_opened}
use Rattle.nt_rules.specs.history.Answer.{opened_deed}
use Rattle.nt_hall.specs.declared.work.Looked.{Looked}
use Rattle.nt_wire.specs.declared.link.LinkFault.{LinkFault}
use Rattle.nt_wire.specs.declared.link.LinkFault.TheVariants as link
use Rattle.nt_serve.specs.declared.served.Break.{Break}
use Rattle.nt_serve.specs.declared.served.Break.TheVariants as broken
use Rattle.nt_serve.specs.declared.served.Served.{Served}
use Rattle.nt_serve.specs.declared.served.ServedEnd.{ServedEnd}
use Rattle.nt_serve.specs.declared.served.ServedEnd.TheVariants.{Ended, LinkFault as link_fault, Behind, Shut, NotOpened, Memory}
use Rattle.nt_serve.specs.Steps.{Step, acts, fails, ignored, Standing, Moves}
use Rattle.nt_serve.specs.Rounds.{IsRound, IsWhole, IsAnyRound}

-- ---- where it is cut

-- the turn with which the hall met want of memory
abbrev pub last_turn : Break → List Step
last_turn broken.Link = []
last_turn broken.Memory = []
last_turn broken.Failed = fails ∷ []

abbrev pub IsLastTurn : Break → List Step → Type 0
IsLastTurn b steps = steps ≡ last_turn b

-- any front of such steps, the empty one too, and then the turn, if there is one, that met want of memory
pub record IsCut (b : Break) (are : List Step → Type 0) (steps : List Step) : Type 0 where
  pub front : List Step
  pub rest : List Step
  pub whole : are (front ++ rest)
  pub steps_are : steps ≡ front ++ last_turn b

-- what a fault of the link breaks off with
abbrev pub break_of : LinkFault → Break
break_of link.Failed = broken.Link
break_of link.Memory = broken.Memory

-- ---- the last round

-- a look that finds the connection behind, and the server not shut
pub record FindsBehind (weight : ℕ) (look : Looked) : Type 0 where
  pub unshut : look.shut ≡ false
  pub behind : look.behind ≡ Some weight

-- The last round, by the end: at the end of the link there is none; it ends with a look that finds the server shut, or
-- the connection behind; a fault of the link, or want of memory outside the hall, cuts it anywhere.
abbrev pub IsLast : ℕ → ServedEnd → List Step → Type 0
IsLast conn Ended steps = steps ≡ []
IsLast conn link_fault steps = IsCut broken.Link (IsAnyRound conn) steps
IsLast conn (Behind weight) steps = (look : Looked) × FindsBehind weight look × IsRound conn look steps
IsLast conn Shut steps = (look : Looked) × (look.shut ≡ true) × IsRound conn look steps
IsLast conn NotOpened steps = ⊥
IsLast conn Memory steps = IsCut broken.Memory (IsAnyRound conn) steps

-- a round after which the session goes on, or the last
abbrev pub IsRoundAs : Option ServedEnd → ℕ → List Step → Type 0
IsRoundAs None conn steps = IsWhole conn steps
IsRoundAs (Some end) conn steps = IsLast conn end steps

-- what a session ends with whose round was cut so, and nothing where the hall met want of memory
abbrev pub end_of : Break → Option ServedEnd
end_of broken.Link = Some link_fault
end_of broken.Memory = Some Memory
end_of broken.Failed = None

-- the last round of a session that ends so, or one that is cut where the hall met want of memory
abbrev pub IsLastOf : Option ServedEnd → ℕ → List Step → Type 0
IsLastOf None conn steps = IsCut broken.Failed (IsAnyRound conn) steps
IsLastOf (Some end) conn steps = IsLast conn end steps

-- rounds, all but the last of which are whole, and after which the session goes on
pub record AreRounds (last : List Step → Type 0) (conn : ℕ) (steps : List Step) : Type 0 where
  pub rounds : List (List Step)
  pub final : List Step
  pub each : AllByRecursion (IsWhole conn) rounds
  pub last_is : last final
  pub steps_are : steps ≡ flat_map (λ round. round) rounds ++ final

-- ---- the whole session

-- what an act of opening is answered: the connection is open under this number, or it isn't
abbrev pub IsOpened : StepOut → ℕ → Type 0
IsOpened out conn = (given : List ℕ) × (out ≡ Opened conn given)

abbrev pub IsUnopened : StepOut → Type 0
IsUnopened out = opened_deed out ≡ not_opened

-- The connection opened, under this number. Its rounds are followed by its close.
pub record IsSession (name : List ℕ) (version : Version) (conn : ℕ) (end : ServedEnd) (steps : List Step) : Type 0
  where
    pub given : List ℕ
    pub opened_at : ℕ
    pub rounds : List Step
    pub closed_at : ℕ
    pub closed : StepOut
    pub rounds_are : AreRounds (IsLast conn end) conn rounds
    pub steps_are : steps ≡ acts opened_at (Open name version) (Opened conn given) ∷ rounds
        ++ acts closed_at (Close conn) closed ∷ []

-- The connection opened, and then the hall met want of memory, in a round or as the connection was to be closed. No
-- turn comes after that one.
pub record IsBroken (name : List ℕ) (version : Version) (conn : ℕ) (steps : List Step) : Type 0 where
  pub given : List ℕ
  pub opened_at : ℕ
  pub rounds : List Step
  pub rounds_are : AreRounds (IsCut broken.Failed (IsAnyRound conn)) conn rounds
  pub steps_are : steps ≡ acts opened_at (Open name version) (Opened conn given) ∷ rounds

-- the connection wasn't opened, since its open was refused or answered otherwise
pub record IsRefused (name : List ℕ) (version : Version) (steps : List Step) : Type 0 where
  pub now : ℕ
  pub out : StepOut
  pub refused : IsUnopened out
  pub steps_are : steps ≡ acts now (Open name version) out ∷ []

-- nothing was done but an act that met want of memory, if that
abbrev pub IsNothing : List Step → Type 0
IsNothing steps = (steps ≡ []) ⊎ (steps ≡ fails ∷ [])

-- what was done, by the number and the end that are answered
abbrev pub IsServed : List ℕ → Version → ℕ → ServedEnd → List Step → Type 0
IsServed name version conn NotOpened steps = (conn ≡ 0) × IsRefused name version steps
IsServed name version conn Memory steps = ((conn ≡ 0) × IsNothing steps)
    ⊎ (IsSession name version conn Memory steps ⊎ IsBroken name version conn steps)
IsServed name version conn end steps = IsSession name version conn end steps

-- What the call came to: what was done, by what is told, led from what there was to what there is, and the count is
-- what was ignored, up to the greatest number.
pub record Serves (a b : Standing) (name : List ℕ) (version : Version) (served : Served) : Type 0 where
  pub steps : List Step
  pub moves : Moves a b steps
  pub session : IsServed name version served.conn served.end steps
  pub ignored_is : served.ignored ≡ min (ignored steps) (2 ^ 64 - 1)
