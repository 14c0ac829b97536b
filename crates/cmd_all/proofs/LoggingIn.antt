-- What the status of a login and of a generation says.
use Rattle.std.proofs.Common.{◌≡◌, inl, inr, ℕ, ◌&&◌, IsTrue, List, [], Option, Result, Err, refl, sym, ◌∙◌, subst, subst₂, append-nil, arith}
use Rattle.pam_base.specs.declared.code.Code.{Code}
use Rattle.pam_outside.specs.Streams.{SinkState}
use Rattle.pam_room.specs.Module.{Player}
use Rattle.pam_room.specs.State.{PlainWorld}
use Rattle.pam_library.specs.Slots.{PlainSlot}
use Rattle.record_reader.specs.declared.ending.Stop.{Stop}
use Rattle.cmd_generate.specs.declared.generating.Generated.{Generated}
use Rattle.cmd_generate.specs.Generated.{Generates, IsEndOfGenerate, generation}
use Rattle.cmd_login.specs.declared.attempt.Verdict.{Verdict}
use Rattle.cmd_login.specs.Ends.{IsEndOfLogin}
use Rattle.cmd_login.specs.Login.{KnownCalls, Part, TriesLogin}
use Rattle.cmd_login.specs.Reported.{LogsIn, possible_calls}
use Rattle.cmd_login.specs.Told.{exact_calls}
use Rattle.record_reader.specs.declared.ending.Stop.TheVariants.{NoMemory}
use Rattle.cmd_run.specs.Seen.{SessionSeen, setting_at}
use Rattle.cmd_run.specs.State.{setting_of, state_of}
use Rattle.cmd_run.specs.Time.{Moments}
use Rattle.cmd_all.specs.declared.exit.Exit.TheVariants as exits
use Rattle.cmd_all.specs.Exit.{exit_status, generate_exit, login_exit}
use Rattle.cmd_all.specs.ByCommand.{Around, LogsInSo, Object, Setup}
use Rattle.cmd_all.specs.CleanedUp.{EndsGenerate, EndsLogin}
use Rattle.cmd_all.specs.Generate.{GeneratesBy, IsGenerated}
use Rattle.cmd_all.specs.Login.{IsLogin, LogsInBy, at_root, entry}
use Rattle.cmd_all.specs.Opened.{IsOpened}
use Rattle.cmd_all.proofs.RunStatusFacts.{both_left, both_right, both_true}

-- by what is known of calls, which may depend on the modules
module _ (Does : Part Verdict) (known : List Player → KnownCalls) (root : List ℕ) (world : Around) (output : Object SinkState) (ends : List PlainSlot)
    (result : Result Verdict Stop) (status : ℕ) (is : status ≡ exit_status (login_exit result)) where
  logged_at : (players : List Player) (slots : List PlainSlot) (now : PlainWorld) → now ≡ at_root root world.old
      → LogsIn Does (known players) players result (state_of slots now) (state_of ends world.new) output.old output.new
      → IsLogin Does (known players) players status (entry slots root world.old) world.new output
  logged_at players slots now under logs = record {
    result = result;
    is = is;
    end = state_of ends world.new;
    world_is = refl;
    logs_in = subst (λ (w : PlainWorld). LogsIn Does (known players) players result (state_of slots w) (state_of ends world.new) output.old output.new)
        under logs;
  }

  pub logged_in : (setup : Setup) (s : SessionSeen) → IsOpened root setup world.old s
      → LogsIn Does (known s.players) s.players result (state_of s.slots s.world) (state_of ends world.new) output.old output.new
      → LogsInBy Does (known setup.players) setup status root world output
  logged_in setup s opened logs = inl (
      subst₂ (λ (players : List Player) (slots : List PlainSlot). IsLogin Does (known players) players status (entry slots root world.old) world.new output)
      opened.players opened.slots (logged_at s.players s.slots s.world opened.world_is logs))

-- a library that comes from one setup comes from another one, too, if both give the same
pub opened_as : (root : List ℕ) (setup other : Setup) (old : PlainWorld) (s : SessionSeen) → setup.players ≡ other.players → setup.slots ≡ other.slots
    → (IsTrue other.tells → IsTrue setup.tells)
    → ((number : Code → ℕ → ℕ) → other.gives number → setup.gives number) → IsOpened root setup old s → IsOpened root other old s
opened_as root setup other old s players slots tells gives opened = record {
  players = opened.players ∙ players;
  slots = opened.slots ∙ slots;
  tells = λ both. opened.tells (tells both);
  gives = λ number given. opened.gives number (gives number given);
  world_is = opened.world_is;
  none_open = opened.none_open;
  sound = opened.sound;
  none_yet = opened.none_yet;
}

-- the ends of a login and of a generation, by the status
pub ends_login : (result : Result Verdict Stop) (status : ℕ) → status ≡ exit_status (login_exit result) → (number ended : ℕ)
    → IsEndOfLogin result number ended → EndsLogin status number ended
ends_login result status is number ended e = (result, is, e)

pub ends_generate : (result : Result Generated Stop) (status : ℕ) → status ≡ exit_status (generate_exit result) → (number ended : ℕ)
    → IsEndOfGenerate result number ended → EndsGenerate status number ended
ends_generate result status is number ended e = (result, is, e)

-- a login, over a library of a setup that gives the same
module _ (root service : List ℕ) (user : Option (List ℕ)) (status : ℕ) (setup : Setup) (world : Around) (output : Object SinkState) where
  pub logs_in_so : (given : Setup) (s : SessionSeen) (ends : List PlainSlot) (result : Result Verdict Stop) → IsOpened root given world.old s
      → given.players ≡ setup.players → given.slots ≡ setup.slots → (IsTrue setup.tells → IsTrue given.tells)
      → ((number : Code → ℕ → ℕ) → setup.gives number → given.gives number) → s.world_tells ≡ world.tells → status ≡ exit_status (login_exit result)
      → (moments : Moments) → moments ≡ setup.moments
      → (IsTrue setup.tells → (number : Code → ℕ → ℕ) → s.gives number → IsTrue (s.tells && s.world_tells) → IsTrue output.tells
      → LogsIn (TriesLogin service user) (exact_calls (setting_at moments s number)) s.players result (state_of s.slots s.world)
      (state_of ends world.new) output.old output.new)
      → (IsTrue output.tells
      → LogsIn (TriesLogin service user) possible_calls s.players result (state_of s.slots s.world) (state_of ends world.new) output.old output.new)
      → LogsInSo root service user status setup world output
  logs_in_so given s ends result opened players slots tells gives world_tells is moments same told reports =
      let library : IsOpened root setup world.old s = opened_as root given setup world.old s players slots tells gives opened in
      record {
        logged_in = λ number gives_it sink both.
            logged_in (TriesLogin service user) (λ (ps : List Player). exact_calls (record { players = ps; delay = number; moments = setup.moments })) root world
            output ends result status is setup s library
            (subst (λ (m : Moments). LogsIn (TriesLogin service user) (exact_calls (setting_at m s number)) s.players result (state_of s.slots s.world)
            (state_of ends world.new) output.old output.new) same
            (told (both_right world.tells setup.tells both) number (library.gives number gives_it)
            (both_true s.tells s.world_tells (library.tells (both_right world.tells setup.tells both))
            (world_tells ∙ both_left world.tells setup.tells both)) sink));
        login_shows = λ sink.
            logged_in (TriesLogin service user) (λ (ps : List Player). possible_calls) root world output ends result status is setup s library (reports sink);
        login_statuses = (result, is);
      }

  -- a login for which an allocation failed
  pub logs_in_not : status ≡ exit_status exits.NoMemory → world.new ≡ world.old → output.new ≡ output.old
      → LogsInSo root service user status setup world output
  logs_in_not four same written = record {
    logged_in = λ number gives sink both. inr (record { is = four; world = same; sink = written });
    login_shows = λ sink. inr (record { is = four; world = same; sink = written });
    login_statuses = (Err NoMemory, four);
  }

-- a generation over slots that a setup gives
pub generated : (players given : List Player) (slots closed ends : List PlainSlot) (world : Around) (output : Object SinkState) (number : Code → ℕ → ℕ)
    (seed lines : ℕ) (result : Result Generated Stop) (status : ℕ) → players ≡ given → slots ≡ closed
    → status ≡ exit_status (generate_exit result)
    → Generates result (generation (setting_of players number) seed lines (state_of slots world.old)) (state_of ends world.new) output.old output.new
    → GeneratesBy (setting_of given number) status closed seed lines world output
generated players given slots closed ends world output number seed lines result status same_players same_slots is generates = inl (
    subst₂ (λ (ps : List Player) (ss : List PlainSlot).
    IsGenerated status (generation (setting_of ps number) seed lines (state_of ss world.old)) world.new output.old output.new) same_players same_slots
    (record { result = result; is = is; end = state_of ends world.new; world_is = refl; generates = generates }))
