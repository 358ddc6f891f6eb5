-- What the code of `go` does is what the headline says of it.
use Rattle.std.proofs.Common.{◌≡◌, ℕ, suc, ◌<◌, ◌≤◌, List, [], ◌∷◌, length, Option, Some, refl, sym, ap, ◌∙◌, subst, arith, append-nil}
use Rattle.std.specs.Prelude.{slice_index}
use Rattle.std.specs.Io.KnownBytes.{Appends}
use Rattle.rt_words.specs.Causes.{Rose}
use Rattle.rt_tree_nodes.specs.declared.brick.ModuleParts.{ModuleParts}
use Rattle.rt_object.specs.declared.object.ObjectParts.{ObjectParts}
use Rattle.rt_image.specs.declared.image.ImageParts.{ImageParts}
use Rattle.rt_outside.specs.Deeds.{Outside}
use Rattle.rt_outside.specs.Files.{Files}
use Rattle.rt_outside.specs.Laws.{CountsNeverFall}
use Rattle.rt_system.specs.declared.parts.Entry.{Entry}
use Rattle.rt_report.specs.Reports.{report_text, run_status}
use Rattle.rt_run.specs.declared.machine.End.{End}
use Rattle.rt_run.specs.Boundaries.{State, steps, start, boundary}
use Rattle.rt_run.specs.Laws.{BoundariesAreCounted}
use Rattle.rt_run.specs.Picture.{Standing}
use Rattle.rt_run.specs.Runs.{IsEnd, Reaches}
use Rattle.rt_link.specs.Laws.{TasksAreThoseOfTheLines}
use Rattle.rt_meaning.specs.declared.begin.SourceTask.{SourceTask}
use Rattle.rt_meaning.specs.Runs.{system_run}
use Rattle.rt_meaning_laws.specs.SourceRuns.{AreBytes}
use Rattle.rt_faithful.specs.Faithful.{IsFaithfulAt, HasNoFault}
use Rattle.rt_faithful.specs.Laws.{LinkedImagesAreFaithful, EndsAreFaithful}
use Rattle.rt_accept.specs.Calls.{Call, after}
use Rattle.rt_headline.specs.Go.{Go}
use Rattle.rt_headline.specs.Outcome.{System, AreModules, Accepts}
use Rattle.rt_headline.specs.Meaning.{IsFaithful, Means}
use Rattle.rt_headline.specs.Carrying.{IsCarried, IsCarriedOut, no_memory, refused, unread, unwritten, carried}
use Rattle.rt_headline.specs.Carrying as made
use Rattle.rt_headline.specs.Headline.{told_of, Begins, Ran, Carried, Goes}
use Rattle.rt_headline.specs.Headline as told
use Rattle.rt_imaging.specs.Imaging.{AreCompiled, IsLinkedOf, LinkedImagesAreImaged}
use Rattle.rt_headline.specs.Laws.{TheHeadlineFollows}
use Rattle.rt_headline.proofs.Named.{named}
use Rattle.rt_headline.proofs.Running.{by_rules, at_limit, stacks_lie}

-- the laws that are used
pub record Given : Type 0 where
  pub imaged : LinkedImagesAreImaged
  pub faithful : LinkedImagesAreFaithful
  pub ends : EndsAreFaithful
  pub counted : BoundariesAreCounted
  pub lines : TasksAreThoseOfTheLines
  pub later : CountsNeverFall

-- ---- small facts

rose_wide : (a b d e : ℕ) → a ≤ b → Rose b d → d ≤ e → Rose a e
rose_wide a b d e h r k = grind arith

pub bytes_of : (bs : List ℕ) → ((k : ℕ) → slice_index bs k < 256) → AreBytes bs
bytes_of [] h = tt
bytes_of (b ∷ bs) h = (h 0, bytes_of bs (λ k. h (suc k)))

same_report : (names names2 : List (List ℕ)) (d d2 : Standing) (end : End) → names ≡ names2 → d.rules ≡ d2.rules → d.ticking.placements ≡ d2.ticking.placements → d.count ≡ d2.count → d.marks ≡ d2.marks → report_text names d end ≡ report_text names2 d2 end
same_report names names2 d d2 end n r p c m = cc

compiled : (files : Option Files) (es : List Entry) (ts : List ModuleParts) (os : List ObjectParts) → AreModules files es ts os → AreCompiled ts os
compiled files [] [] [] h = tt
compiled files [] [] (o ∷ os) h = absurd h
compiled files [] (t ∷ ts) [] h = absurd h
compiled files [] (t ∷ ts) (o ∷ os) h = absurd h
compiled files (e ∷ es) [] [] h = absurd h
compiled files (e ∷ es) [] (o ∷ os) h = absurd h
compiled files (e ∷ es) (t ∷ ts) [] h = absurd h
compiled files (e ∷ es) (t ∷ ts) (o ∷ os) h = (record { text = h.0.text; is_tree = h.0.is_tree; object = h.0.object; ranges = h.0.ranges }, compiled files es ts os h.1)

same_length : (files : Option Files) (es : List Entry) (ts : List ModuleParts) (os : List ObjectParts) → AreModules files es ts os → length os ≡ length es
same_length files [] [] [] h = refl
same_length files [] [] (o ∷ os) h = absurd h
same_length files [] (t ∷ ts) [] h = absurd h
same_length files [] (t ∷ ts) (o ∷ os) h = absurd h
same_length files (e ∷ es) [] [] h = absurd h
same_length files (e ∷ es) [] (o ∷ os) h = absurd h
same_length files (e ∷ es) (t ∷ ts) [] h = absurd h
same_length files (e ∷ es) (t ∷ ts) (o ∷ os) h = ap suc (same_length files es ts os h.1)

-- ---- what a run means

means : (trees : List ModuleParts) (tasks : List SourceTask) (image : ImageParts) (f : IsFaithful trees tasks image) (input : List ℕ) (s : State) → IsFaithfulAt f.whole image tasks input s → Means trees tasks input s
means trees tasks image f input s h = let m = h.same in record {
  reached = m.reached;
  run = subst (λ (ps : List ModuleParts). system_run ps tasks s.placements input (steps s) ≡ Some m.reached) f.modules m.run;
  output = m.output;
  taken = m.taken;
  rules = m.rules;
}

module _ (laws : Given) (c : Call) (g : Go) (a : System) (from : Outside) (report : List ℕ) (image : ImageParts) (status : ℕ) (x : IsCarried c from g.limit report image a.gaps status) (f : IsFaithful a.trees a.tasks image) where
  reaches : (input : List ℕ) → Begins x.runs.given x.runs.over input → Reaches image a.gaps input g.limit (start image a.gaps) x.runs.given x.end x.last from.written x.middle.written
  reaches input b = x.runs.reaches image a.gaps input b.rest (start image a.gaps) x.begins refl (record { next = b.parts; last = b.last })

  at_end : (input : List ℕ) → AreBytes input → (s : State) → IsEnd image a.gaps input g.limit x.end s → IsFaithfulAt f.whole image a.tasks input s × HasNoFault x.end
  at_end input bytes s e = laws.ends f.whole image a.tasks a.gaps input g.limit x.end s f.faithful bytes e

  no_fault : HasNoFault x.end
  no_fault =
      let bs = x.runs.given in
      let bytes = bytes_of bs x.runs.gives.small in
      let r = reaches bs (record { rest = []; parts = sym (append-nil bs); last = λ e. refl; bytes = bytes }) in
      (at_end bs bytes r.rests.comes.state r.ends).1

  module _ (names : made.names_of image.tasks ≡ told.names_of a.parts.tasks) (input : List ℕ) (b : Begins x.runs.given x.runs.over input) where
    ran : Ran g a image x.runs.given input x.end from x.middle (report_text (made.names_of image.tasks) x.last x.end) (run_status x.end x.last.rules.tasks)
    ran =
        let k = reaches input b in
        let s = k.rests.comes.state in
        let shows = k.rests.comes.shows in
        let m = means a.trees a.tasks image f input s (at_end input b.bytes s k.ends).0 in
        record {
          state = s;
          run = k.ends;
          output = subst (λ (bytes : List ℕ). Appends from.written x.middle.written bytes) (sym k.rests.comes.output) k.rests.comes.appended;
          taken = (let t = k.rests.comes.taken in omega (arith, t));
          told = same_report (made.names_of image.tasks) (told.names_of a.parts.tasks) x.last (told_of image s) x.end names (sym shows.rules) (sym shows.placements) (sym shows.count) (sym shows.steps_taken);
          means = m;
          status = by_rules laws.counted image a.gaps input g.limit x.end s no_fault k.ends x.last.rules shows.rules m.reached.state (m.rules ∙ shows.rules);
          limit = at_limit image a.gaps input g.limit x.end s no_fault k.ends x.last.rules;
          stacks = λ n. stacks_lie f.whole image a.tasks input (boundary image a.gaps input n) (f.faithful.each a.gaps input b.bytes n);
        }

-- ---- the whole

faithful_of : (laws : Given) (trees : List ModuleParts) (a : System) (image : ImageParts) → IsLinkedOf a.trees a.parts a.tasks image → IsFaithful a.trees a.tasks image
faithful_of laws trees a image l = let s = laws.imaged a.trees a.parts a.tasks image l in record { whole = s.whole; modules = s.modules; bound = s.bound; faithful = laws.faithful s.whole image a.tasks s.imaged }

pub carried_out : Given → (files : Option Files) (c : Call) (g : Go) (a : System) (status : ℕ) → Accepts files g a → IsCarriedOut c g a status → Carried c g a status
carried_out laws files c g a status h x =
    let count = same_length files a.parts.entries a.trees a.objects h.modules in
    let most = h.system.is_system.parts.limits.few_entries in
    let few : length a.objects ≤ 64 = omega (arith, count, most) in
    let f = faithful_of laws a.trees a x.image (record { objects = a.objects; compiled = compiled files a.parts.entries a.trees a.objects h.modules; ranges = x.ranges; few = few; its_map = x.its_map; linked = x.linked; bytes = x.bytes; spelled = x.spelled; tasks_are = h.tasks }) in
    let names = named laws.lines a.objects a.parts.tasks x.image x.its_map x.linked in
    let k = x.carried in
    let before_run : c.faults ≤ x.made.faults = x.written.3.faults in
    let after_run : k.middle.faults ≤ c.faults_after = (laws.later _ k.middle (after c) k.reported.all k.reported.performed).faults in
    record {
      image = x.image;
      faithful = f;
      bytes = x.bytes;
      spelled = x.spelled;
      made = x.made;
      written = x.written;
      given = k.runs.given;
      over = k.runs.over;
      gives = k.runs.gives;
      end = k.end;
      no_fault = no_fault laws c g a x.made _ x.image status k f;
      read_failed = k.read_failed;
      write_failed = λ e. rose_wide c.faults x.made.faults k.middle.faults c.faults_after before_run (k.write_failed e) after_run;
      ran = k.middle;
      files = k.files;
      later = k.later;
      report = report_text (made.names_of x.image.tasks) k.last k.end;
      answer = run_status k.end k.last.rules.tasks;
      runs = λ input b. ran laws c g a x.made _ x.image status k f names input b;
      reported = k.reported;
    }

pub follows : Given → TheHeadlineFollows
follows laws files c g _ (no_memory n) = Goes.no_memory n
follows laws files c g _ (refused r i) = Goes.refused r i
follows laws files c g _ (unread t r i) = Goes.unread t r i
follows laws files c g _ (unwritten h n) = Goes.unwritten h n
follows laws files c g status (carried {a = a} h x) = Goes.carried h (carried_out laws files c g a status h x)
