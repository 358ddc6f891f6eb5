-- What the program promises, by what its words are.
use Rattle.std.proofs.Common.{◌≡◌, ℕ, List, [], Option, Bor, refl, sym, subst}
use Rattle.rt_commands.specs.Commands.{IsCommand}
use Rattle.rt_commands.specs.declared.command.Command.{Command}
use Rattle.rt_commands.specs.declared.command.Command.TheVariants as command
use Rattle.rt_commands.specs.declared.lent.CommandWords.{CommandWords}
use Rattle.rt_commands.specs.declared.lent.CommandWords.TheVariants as lent
use Rattle.rt_commands.specs.declared.lent.TimedWords.{TimedWords}
use Rattle.rt_commands.specs.Reading.{said}
use Rattle.rt_commands.proofs.CommandReads.{one_command}
use Rattle.rt_accept.specs.Calls.{Call, KeepsOthers, Says}
use Rattle.rt_headline.specs.Go.{Go, IsGo}
use Rattle.rt_headline.specs.Carrying.{IsCarriedOut, GoEnds}
use Rattle.rt_headline.specs.Generating.{IsGen, GenEnds}
use Rattle.rt_headline.specs.Laws.{TheHeadlineFollows, GeneratedRunsFollow}
use Rattle.rt_top.specs.Running.{Asked, asked, IsRun, RunEnds}
use Rattle.rt_top.specs.Showing.{IsShow, ShowEnds}
use Rattle.rt_top.specs.Linking.{LinkNames, link_names, IsLink, LinkEnds}
use Rattle.rt_top.specs.Stacking.{IsStacks, StacksEnd}
use Rattle.rt_top.specs.Compiling.{Named, named, IsCompile, CompileEnds}
use Rattle.rt_top.specs.Going.{asked_go}
use Rattle.rt_top.specs.Top.{IsNoCommand, words_line, written_by, MayWrite, Headline}
use Rattle.rt_top.proofs.Keeping.{by_words}
use Rattle.rt_top.proofs.Commands.{compile_kept, link_kept, stacks_kept, run_kept, show_kept, go_kept, gen_kept}
use Rattle.rt_top.proofs.Causes.{Caused, compile_caused, link_caused, stacks_caused, run_caused, show_caused, go_caused, gen_caused, ten_only}

-- what is promised of the words of a command
abbrev pub Promise : Call → ℕ → Command → Type 0
Promise c status (command.Go system ticks limit name) = GoEnds c.files c (record { system = system; ticks = ticks; limit = limit; name = name }) status
Promise c status (command.Compile source object) = CompileEnds c (named source object) status
Promise c status (command.Run image ticks limit report) = RunEnds c (record { image = image; ticks = ticks; limit = limit; report = report }) status
Promise c status (command.Link system image map) = LinkEnds c (link_names system image map) status
Promise c status (command.Stacks name) = StacksEnd c name status
Promise c status (command.Show name) = ShowEnds c name status
Promise c status (command.Gen n name) = GenEnds IsCarriedOut c n name status

abbrev pub go_command : Go → Command
go_command g = command.Go g.system g.ticks g.limit g.name

abbrev pub run_command : Asked → Command
run_command r = command.Run r.image r.ticks r.limit r.report

abbrev pub link_command : LinkNames → Command
link_command n = command.Link n.system n.image n.map

abbrev pub compile_command : Named → Command
compile_command n = command.Compile n.source n.object

-- what the headline is that follows
pub record Follow : Type 0 where
  pub goes : TheHeadlineFollows
  pub generates : GeneratedRunsFollow

module _ (law : Follow) (words : List (List ℕ)) (c : Call) (status : ℕ) where
  -- the files that may be written are those of the one command
  kept_by : (d : Command) → IsCommand words d → KeepsOthers (written_by d) c → (names : List (List ℕ)) → MayWrite words names → KeepsOthers names c
  kept_by d is kept names (MayWrite.by_command e also) = subst (λ (x : Command). KeepsOthers (written_by x) c) (one_command words d e is also) kept
  kept_by d is kept names (MayWrite.by_none none) = absurd (none d is)

  none_kept : IsNoCommand words → KeepsOthers [] c → (names : List (List ℕ)) → MayWrite words names → KeepsOthers names c
  none_kept none kept names (MayWrite.by_command d is) = absurd (none d is)
  none_kept none kept names (MayWrite.by_none also) = kept

  -- the words are those of one command alone
  pub promised : (d : Command) → IsCommand words d → Promise c status d → KeepsOthers (written_by d) c → Caused c status → Headline words c status
  promised d is p kept k =
      let goes : (g : Go) → IsGo words g → GoEnds c.files c g status = λ g also. subst (Promise c status) (one_command words d (go_command g) is also) p in
      let generates : (n : ℕ) (name : List ℕ) → IsGen words n name → GenEnds IsCarriedOut c n name status = λ n name also. subst (Promise c status) (one_command words d (command.Gen n name) is also) p in
      record {
        goes = λ g also. law.goes c.files c g status (goes g also);
        generates = λ n name also. law.generates c n name status (generates n name also);
        compiles = λ n also. subst (Promise c status) (one_command words d (compile_command n) is also) p;
        links = λ n also. subst (Promise c status) (one_command words d (link_command n) is also) p;
        stacks = λ name also. subst (Promise c status) (one_command words d (command.Stacks name) is also) p;
        runs = λ r also. subst (Promise c status) (one_command words d (run_command r) is also) p;
        shows = λ name also. subst (Promise c status) (one_command words d (command.Show name) is also) p;
        none = λ none. absurd (none d is);
        files_kept = kept_by d is kept;
        ten = λ e. absurd (k.ten e);
        twenty = k.twenty;
        twenty_one = k.twenty_one;
        thirty = k.thirty;
      }

  pub told : IsNoCommand words → Says words_line 10 c status → Headline words c status
  told none h =
      let k = ten_only c status h.tells in record {
        goes = λ g is. absurd (none (go_command g) is);
        generates = λ n name is. absurd (none (command.Gen n name) is);
        compiles = λ n is. absurd (none (compile_command n) is);
        links = λ n is. absurd (none (link_command n) is);
        stacks = λ name is. absurd (none (command.Stacks name) is);
        runs = λ r is. absurd (none (run_command r) is);
        shows = λ name is. absurd (none (command.Show name) is);
        none = λ also. h;
        files_kept = none_kept none (by_words c [] words_line 10 status h);
        ten = λ e. none;
        twenty = k.twenty;
        twenty_one = k.twenty_one;
        thirty = k.thirty;
      }

  pub went : (g : Go) → IsGo words g → GoEnds c.files c g status → Headline words c status
  went g is h = promised (go_command g) is h (go_kept c.files c g status h) (go_caused c g status h)

  pub generated : (n : ℕ) (name : List ℕ) → IsGen words n name → GenEnds IsCarriedOut c n name status → Headline words c status
  generated n name is h = promised (command.Gen n name) is h (gen_kept c n name status h) (gen_caused c n name status h)

  pub compiled : (n : Named) → IsCompile words n → CompileEnds c n status → Headline words c status
  compiled n is h = promised (compile_command n) is h (compile_kept c n status h) (compile_caused c n status h)

  pub linked : (n : LinkNames) → IsLink words n → LinkEnds c n status → Headline words c status
  linked n is h = promised (link_command n) is h (link_kept c n status h) (link_caused c n status h)

  pub stacked : (name : List ℕ) → IsStacks words name → StacksEnd c name status → Headline words c status
  stacked name is h = promised (command.Stacks name) is h (stacks_kept c name status h) (stacks_caused c name status h)

  pub ran : (r : Asked) → IsRun words r → RunEnds c r status → Headline words c status
  ran r is h = promised (run_command r) is h (run_kept c r status h) (run_caused c r status h)

  pub showed : (name : List ℕ) → IsShow words name → ShowEnds c name status → Headline words c status
  showed name is h = promised (command.Show name) is h (show_kept c name status h) (show_caused c name status h)

-- ---- the words that are lent

pub lent_go : (words : List (List ℕ)) (it : CommandWords) (w : TimedWords) → it ≡ lent.Go w → IsCommand words (said it) → IsGo words (asked_go w)
lent_go words it w e h = subst (λ (t : CommandWords). IsCommand words (said t)) e h

pub lent_gen : (words : List (List ℕ)) (it : CommandWords) (n : ℕ) (name : Bor (List ℕ)) → it ≡ lent.Gen n name → IsCommand words (said it) → IsGen words n name.now
lent_gen words it n name e h = subst (λ (t : CommandWords). IsCommand words (said t)) e h

pub lent_run : (words : List (List ℕ)) (it : CommandWords) (w : TimedWords) → it ≡ lent.Run w → IsCommand words (said it) → IsRun words (asked w)
lent_run words it w e h = subst (λ (t : CommandWords). IsCommand words (said t)) e h

pub lent_compile : (words : List (List ℕ)) (it : CommandWords) (source object : Bor (List ℕ)) → it ≡ lent.Compile source object → IsCommand words (said it) → IsCompile words (named source.now object.now)
lent_compile words it source object e h = subst (λ (t : CommandWords). IsCommand words (said t)) e h

pub lent_link : (words : List (List ℕ)) (it : CommandWords) (system image map : Bor (List ℕ)) → it ≡ lent.Link system image map → IsCommand words (said it) → IsLink words (link_names system.now image.now map.now)
lent_link words it system image map e h = subst (λ (t : CommandWords). IsCommand words (said t)) e h

pub lent_stacks : (words : List (List ℕ)) (it : CommandWords) (w : Bor (List ℕ)) → it ≡ lent.Stacks w → IsCommand words (said it) → IsStacks words w.now
lent_stacks words it w e h = subst (λ (t : CommandWords). IsCommand words (said t)) e h

pub lent_show : (words : List (List ℕ)) (it : CommandWords) (w : Bor (List ℕ)) → it ≡ lent.Show w → IsCommand words (said it) → IsShow words w.now
lent_show words it w e h = subst (λ (t : CommandWords). IsCommand words (said t)) e h
