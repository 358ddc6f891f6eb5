mod Alive
